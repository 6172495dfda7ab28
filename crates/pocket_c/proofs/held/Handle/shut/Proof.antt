-- `shut` makes a handle that holds nothing.
use Rattle.std.proofs.Common.{◌≡◌, [], ◌∷◌, Option, None, refl, lit<}
use mir.Syntax.{Fn}
use mir.Val.{Val}
use base.Logic.{SProp, emp}
use base.Fml.{ftrue}
use contract.Monad.{fact, fact_i}
use contract.Running.{tables}
use types.Kit.{‵, raw, ◌⊛◌, ◌$◌, ◌∵◌, !, qed, by, move, drop, use0, split, fpack}
use types.Run.{lit, no_more, and_then, returns, enter}
use types.ByLocal.{alloc_all, pass_all, free_all, look_at, sets}
use types.Part.{agg}
use denote.RattleType.{owns}
use denote.RawPtr.{null_ptr}
use denote.Signature.{types_at}
use denote.Steps.{nothing}
use denote.Triple.Entry.{alive}
use denote.Triple.Walked.{Stays, walk_of}
use Rattle.std.proofs.raw_atomic.Walks.{proved_at, leaves}
use Rattle.pocket_c.proofs.Values.{handle_val, handle_good, handle_in}
use Rattle.pocket_c.specs.contracts.held.Held as held
use Rattle.pocket_c.specs.contracts.held.Handle.shut.{ended, clauses}
use Rattle.pocket_c.specs.contracts.held.Handle.shut.Key.{name as #self}
use Rattle.pocket_c.proofs.held.Handle.shut.Statement.{statement}
use Rattle.pocket_c.proofs.held.Handle.shut.Code as code

pub shut_spec : {M : Type 1} → statement M
shut_spec 𝓤 𝓛 𝓜 𝓡 wired =
    let H = 𝓛.H in let 𝓣 = tables 𝓤 H 𝓜 𝓡 𝓡.env in let En = ended in let c = clauses 𝓛 𝓜.mem 𝓡.returns in let fn : Fn = code.function in
    let hs : Stays En.signature.params En.kept = tt in let nothing_held : Option held.the_row.Denot = None in
    proved_at 𝓛 En hs c 𝓜 𝓡 tt #self fn (code.unfolded 𝓤 H 𝓜 𝓡 wired) (λ z are.
    let Post : Val → SProp 𝓤 = (walk_of 𝓛 En hs c).post z in
    qed 𝓛 ((raw (alive 𝓛 En.signature z.0.0 z.0.1) ⊛ ‵ (owns (types_at En.signature.params z.0.0) z.0.3 z.0.4)) ∷ ‵ ftrue ∷ []) ∵ move ! (1 ∷ []) $ drop ! $ split ! $ move ! (1 ∷ []) $ drop ! $
    enter ! 𝓣.C 𝓣.Λ fn [] Post $ alloc_all ! (λ l. pass_all ! refl tt $
    sets ! (agg ! (and_then ! (lit ! tt) (and_then ! (lit ! tt) (no_more !)))) refl (handle_good null_ptr 0 (lit< tt)) $
    returns ! (look_at ! 0 refl) $ free_all ! refl $
    use0 𝓛 (raw (fact 𝓤 (nothing_held ≡ None))) (fact_i 𝓤 (nothing_held ≡ None) (emp 𝓤) refl) $
    nothing ! $ fpack ! (0 ≡ 0) (λ _. ftrue) refl $ handle_in ! null_ptr 0 None (lit< tt) $ nothing ! $ move ! (3 ∷ 0 ∷ 1 ∷ 2 ∷ []) $
    by ! (leaves 𝓛 En hs c z (handle_val null_ptr 0) (record { at = null_ptr; state = 0; held = None }) tt tt)))
