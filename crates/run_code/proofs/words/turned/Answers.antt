use Rattle.run_code.proofs.Turning.{turned_by}
use Rattle.run_code.proofs.words.turned.Goals as goal

pub returns : goal.returns
returns c =
    turned_by c.args.word _ _ _ _ _ _ c.swapped-turned.ensures c.swapped-turned-2.ensures c.swapped-turned-3.ensures c.swapped-turned-4.ensures c.swapped-turned-5.ensures c.swapped.ensures
