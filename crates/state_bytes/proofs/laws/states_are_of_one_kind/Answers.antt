use Rattle.state_bytes.proofs.Parts.{frames_agree}
use Rattle.state_bytes.proofs.laws.states_are_of_one_kind.Goals as goal

pub returns : goal.returns
returns c bytes body other kind f k g first second = frames_agree kind f k g bytes body other first second
