use Rattle.std.proofs.Common.{not, ap, ◌∙◌, rules}
use Rattle.std.proofs.lemmas.Fn.{filter_same}
use Rattle.std.specs.Str.{bytes_eq}
use Rattle.desk_ports.specs.Log.{kept_of}
use Rattle.desk_ports.proofs.Logs.{kept_of-removed}
use Rattle.desk_ports.proofs.memory.names.remove.Goals as goal

pub returns : goal.returns
returns c =
    let left = filter_same _ (λ e. not (bytes_eq c.args.name.now e.0)) _ (λ x b f' k. search rules) _ _ c.retain.ensures.filtered in
    ap kept_of left ∙ kept_of-removed c.args.log.now.items c.args.name.now
