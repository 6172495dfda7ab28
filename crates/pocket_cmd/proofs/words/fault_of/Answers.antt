use Rattle.std.proofs.Common.{◌≡◌, false, [], map, None, sym, ◌∙◌, subst}
use Rattle.std.specs.String.{string_bytes}
use Rattle.pocket_cmd.specs.Words.{is_missing, wrong_word}
use Rattle.pocket_cmd.proofs.Given.{IsPlaces-with_mask}
use Rattle.pocket_cmd.proofs.words.fault_of.Goals as goal

pub wrong_mask-requires-clause-places : goal.wrong_mask-requires-clause-places
wrong_mask-requires-clause-places c =
    let words = map string_bytes c.args.words.now in
    let none : c.wrong_word.result ≡ None = search in
    IsPlaces-with_mask c.args.verb words
    (subst (λ rows. wrong_word rows [] words ≡ None) c.rows-rows.ensures (sym c.wrong_word.ensures.place ∙ none))
    (subst (λ rows. is_missing rows words ≡ false) c.rows-rows.ensures (sym c.is_missing.ensures ∙ c.if-is_missing.false))
