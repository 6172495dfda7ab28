use Rattle.std.proofs.Common.{◌≡◌, ◌%◌, arith}
use Rattle.std.proofs.lemmas.List.{length-drop}
use Rattle.bit_vectors.proofs.WordBytes.{ShowsFirst-after}
use Rattle.count_code.proofs.ahead.Ahead.after.Goals as goal

pub returns : goal.returns
returns c =
    let by : c.args.width % 64 ≡ c.args.width = omega (arith, c.requires.most) in
    λ bits are. record {
      most = omega (arith, are.most);
      within = omega (arith, are.within, length-drop c.args.width bits);
      shows = rw by at (ShowsFirst-after bits c.args.self.word c.args.self.shown c.args.width are.most c.requires.width are.shows);
    }
