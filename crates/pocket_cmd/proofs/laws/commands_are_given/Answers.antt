use Rattle.std.proofs.Common.{codes}
use Rattle.pocket_cmd.specs.Words.{bits, text_of}
use Rattle.pocket_cmd.proofs.Apart.{AreApart-command_of}
use Rattle.pocket_cmd.proofs.Given.{IsCommand-command_of, length-first_mask}
use Rattle.pocket_cmd.proofs.laws.commands_are_given.Goals as goal

pub returns-clause-right : goal.returns-clause-right
returns-clause-right c = λ words command e. (IsCommand-command_of words command e).right

pub returns-clause-mask : goal.returns-clause-mask
returns-clause-mask c = λ words. length-first_mask (bits words) (text_of words (codes "mask"))

pub returns-clause-given : goal.returns-clause-given
returns-clause-given c = λ words command e. (IsCommand-command_of words command e).given

pub returns-clause-apart : goal.returns-clause-apart
returns-clause-apart c = AreApart-command_of
