-- What is seen of a desk in memory, and what each of its calls does to that.
use Rattle.std.specs.Prelude.{◌≡◌, ℕ, min, Bool, true, false, List, [], Option, Some, None, refl, ◌++◌, ◌∷◌}
use Rattle.std.specs.List.{Contains}
use Rattle.std.specs.Coded.{Coded, code_by, coded×, coded_ℕ, coded_bool, coded_list, coded_option}
use Rattle.std.specs.FinMap as map
use Rattle.desk_ports.specs.declared.desk.Inlet.{Inlet}
use Rattle.desk_ports.specs.declared.desk.Inlet.TheVariants as inlet
use Rattle.desk_ports.specs.declared.desk.Outlet.{Outlet}
use Rattle.desk_ports.specs.declared.desk.Outlet.TheVariants as outlet
use Rattle.desk_ports.specs.declared.calls.Call.{Call}
use Rattle.desk_ports.specs.declared.calls.Call.TheVariants as call
use Rattle.desk_ports.specs.Meanings.{Meanings, Counts, Kept, next_count}

-- an input: the bytes still to come, and whether it was opened
pub record MemIncoming : Type 0 where
  pub left : List ℕ
  pub ready : Bool

-- an output: the bytes written since it was opened, the name that it has, and whether it was opened
pub record MemOutgoing : Type 0 where
  pub made : List ℕ
  pub name : List ℕ
  pub ready : Bool

-- the faults of reading and of writing, and the allocations that were refused
pub record MemFaults : Type 0 where
  pub reads : ℕ
  pub writes : ℕ
  pub short : ℕ

-- the calls of one kind: how many were made, and the numbers of those that fail
pub record MemCalls : Type 0 where
  pub calls : ℕ
  pub failing : List ℕ

-- the calls of each kind
pub record MemPlan : Type 0 where
  pub open_in : MemCalls
  pub open_out : MemCalls
  pub read : MemCalls
  pub write : MemCalls
  pub finish : MemCalls

-- all of a desk in memory: its inputs and outputs, what it keeps, the most bytes that a call moves if that is limited,
-- the calls that were made and that fail, its faults of reading and of writing, and the allocations that were refused
pub record MemState : Type 0 where
  pub side : MemIncoming
  pub input : MemIncoming
  pub output : MemOutgoing
  pub report : MemOutgoing
  pub held : Kept
  pub pieces : Option ℕ
  pub plan : MemPlan
  pub faults : MemFaults

abbrev pub bytes_code : Coded (List ℕ)
bytes_code = coded_list coded_ℕ

abbrev pub incoming_code : Coded MemIncoming
incoming_code = code_by (List ℕ × Bool) (coded× bytes_code coded_bool) (λ i. (i.left, i.ready)) (λ p. record { left = p.0; ready = p.1 }) (λ _. refl)

abbrev pub outgoing_code : Coded MemOutgoing
outgoing_code =
    code_by (List ℕ × (List ℕ × Bool)) (coded× bytes_code (coded× bytes_code coded_bool)) (λ o. (o.made, (o.name, o.ready)))
    (λ p. record { made = p.0; name = p.1.0; ready = p.1.1 }) (λ _. refl)

abbrev pub kept_code : Coded Kept
kept_code = map.code bytes_code bytes_code

abbrev pub calls_code : Coded MemCalls
calls_code = code_by (ℕ × List ℕ) (coded× coded_ℕ bytes_code) (λ c. (c.calls, c.failing)) (λ p. record { calls = p.0; failing = p.1 }) (λ _. refl)

abbrev pub plan_code : Coded MemPlan
plan_code =
    code_by (MemCalls × (MemCalls × (MemCalls × (MemCalls × MemCalls)))) (coded× calls_code (coded× calls_code (coded× calls_code (coded× calls_code calls_code))))
    (λ p. (p.open_in, (p.open_out, (p.read, (p.write, p.finish)))))
    (λ p. record { open_in = p.0; open_out = p.1.0; read = p.1.1.0; write = p.1.1.1.0; finish = p.1.1.1.1 }) (λ _. refl)

abbrev pub faults_code : Coded MemFaults
faults_code =
    code_by (ℕ × (ℕ × ℕ)) (coded× coded_ℕ (coded× coded_ℕ coded_ℕ)) (λ f. (f.reads, (f.writes, f.short)))
    (λ p. record { reads = p.0; writes = p.1.0; short = p.1.1 }) (λ _. refl)

abbrev pub state_code : Coded MemState
state_code =
    code_by ((MemIncoming × MemIncoming) × ((MemOutgoing × MemOutgoing) × (Kept × (Option ℕ × (MemPlan × MemFaults)))))
    (coded× (coded× incoming_code incoming_code) (coded× (coded× outgoing_code outgoing_code) (coded× kept_code (coded× (coded_option coded_ℕ) (coded× plan_code faults_code)))))
    (λ s. ((s.side, s.input), ((s.output, s.report), (s.held, (s.pieces, (s.plan, s.faults))))))
    (λ p. record {
      side = p.0.0;
      input = p.0.1;
      output = p.1.0.0;
      report = p.1.0.1;
      held = p.1.1.0;
      pieces = p.1.1.1.0;
      plan = p.1.1.1.1.0;
      faults = p.1.1.1.1.1;
    })
    (λ _. refl)

abbrev pub closed_incoming : MemIncoming
closed_incoming = record { left = []; ready = false }

abbrev pub closed_outgoing : MemOutgoing
closed_outgoing = record { made = []; name = []; ready = false }

-- no call was made, and none fails
abbrev pub no_calls : MemCalls
no_calls = record { calls = 0; failing = [] }

abbrev pub empty_plan : MemPlan
empty_plan = record { open_in = no_calls; open_out = no_calls; read = no_calls; write = no_calls; finish = no_calls }

-- no fault, and no allocation that was refused
abbrev pub no_faults : MemFaults
no_faults = record { reads = 0; writes = 0; short = 0 }

-- a new desk: nothing is open or held, and nothing has failed
abbrev pub empty_desk : MemState
empty_desk = record {
  side = closed_incoming;
  input = closed_incoming;
  output = closed_outgoing;
  report = closed_outgoing;
  held = map.empty;
  pieces = None;
  plan = empty_plan;
  faults = no_faults;
}

-- the bytes still to come at an inlet
abbrev pub mem_left : MemState → Inlet → List ℕ
mem_left state inlet.Side = state.side.left
mem_left state inlet.Main = state.input.left

-- the bytes written to an outlet since it was opened
abbrev pub mem_made : MemState → Outlet → List ℕ
mem_made state outlet.Main = state.output.made
mem_made state outlet.Report = state.report.made

-- what a desk in memory tells, which is everything. It grants every name
abbrev pub mem_meanings : MemState → Meanings
mem_meanings state = record {
  side = record { left = Some state.side.left; ready = state.side.ready };
  input = record { left = Some state.input.left; ready = state.input.ready };
  output = record { made = Some state.output.made; name = Some state.output.name; ready = state.output.ready };
  report = record { made = Some state.report.made; name = Some state.report.name; ready = state.report.ready };
  held = Some state.held;
  grants_in = λ _. true;
  grants_out = λ _. true;
}

abbrev pub mem_counts : MemState → Counts
mem_counts state = record { reads = state.faults.reads; writes = state.faults.writes }

-- the most bytes that one call may move
abbrev pub capped : Option ℕ → ℕ → ℕ
capped None n = n
capped (Some size) n = min n size

abbrev pub calls_of : MemPlan → Call → MemCalls
calls_of plan call.OpenIn = plan.open_in
calls_of plan call.OpenOut = plan.open_out
calls_of plan call.Read = plan.read
calls_of plan call.Write = plan.write
calls_of plan call.Finish = plan.finish

abbrev pub with_calls : MemPlan → Call → MemCalls → MemPlan
with_calls plan call.OpenIn calls = record plan { open_in = calls }
with_calls plan call.OpenOut calls = record plan { open_out = calls }
with_calls plan call.Read calls = record plan { read = calls }
with_calls plan call.Write calls = record plan { write = calls }
with_calls plan call.Finish calls = record plan { finish = calls }

-- after one more call
abbrev pub one_more : MemCalls → MemCalls
one_more calls = record calls { calls = next_count calls.calls }

-- the next call has a number that fails
abbrev pub IsNextFailing : MemCalls → Type 0
IsNextFailing calls = Contains calls.failing (next_count calls.calls)

-- one more number fails
abbrev pub with_failing : MemCalls → ℕ → MemCalls
with_failing calls nth = record calls { failing = calls.failing ++ nth ∷ [] }

-- a call of this kind was made
abbrev pub called : MemPlan → Call → MemPlan
called plan call = with_calls plan call (one_more (calls_of plan call))

-- the call of this kind with this number fails too
abbrev pub also_failing : MemPlan → Call → ℕ → MemPlan
also_failing plan call nth = with_calls plan call (with_failing (calls_of plan call) nth)

-- the next call of this kind was named as one that fails
abbrev pub IsNamed : MemState → Call → Type 0
IsNamed state call = IsNextFailing (calls_of state.plan call)

-- no call is told to fail
pub record NothingFails (plan : MemPlan) : Type 0 where
  pub open_in : plan.open_in.failing ≡ []
  pub open_out : plan.open_out.failing ≡ []
  pub read : plan.read.failing ≡ []
  pub write : plan.write.failing ≡ []
  pub finish : plan.finish.failing ≡ []

-- after one more fault of reading
abbrev pub read_fault : MemFaults → MemFaults
read_fault faults = record faults { reads = next_count faults.reads }

-- after one more fault of writing
abbrev pub write_fault : MemFaults → MemFaults
write_fault faults = record faults { writes = next_count faults.writes }

-- after one more allocation that was refused
abbrev pub refusal : MemFaults → MemFaults
refusal faults = record (write_fault faults) { short = next_count faults.short }

-- a call of this kind was made: it has its number, and what the desk was told to do is unchanged
pub record IsCalled (old new : MemState) (call : Call) : Type 0 where
  pub numbered : new.plan ≡ called old.plan call
  pub pieces : new.pieces ≡ old.pieces
