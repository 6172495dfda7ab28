use Rattle.std.proofs.Common.{◌≡◌, ℕ, IfOk, ap, subst, ◌∙◌}
use Rattle.desk_ports.specs.Courses.{to_output}
use Rattle.desk_ports.proofs.Steps.{Writes-is}
use Rattle.forecast.specs.Outlooks.{ForecastState, foresees, forecast_text, sure_count}
use Rattle.forecast.proofs.forecast.Forecast.write.Goals as goal

pub returns-clause-written : goal.returns-clause-written
returns-clause-written g c =
    let begun = ap (λ (r : ForecastState). forecast_text (foresees r.outlook) c.self.inside.packets) c.of-running.ensures in
    let viewed = ap (λ (r : ForecastState). forecast_text (foresees r.outlook) r.packets) c.self.view_is in
    Writes-is (ap to_output (begun ∙ viewed)) c.write_rows.ensures.written

pub returns-clause-sure : goal.returns-clause-sure
returns-clause-sure g c =
    let begun = ap (λ (r : ForecastState). sure_count (foresees r.outlook) c.self.inside.packets) c.of-running.ensures in
    let viewed = ap (λ (r : ForecastState). sure_count (foresees r.outlook) r.packets) c.self.view_is in
    subst (λ (n : ℕ). IfOk c.write_rows.result (λ sure. sure ≡ n)) (begun ∙ viewed) c.write_rows.ensures.sure
