use Rattle.parts.proofs.Following.{parts_follow}
use Rattle.parts.proofs.parts_follow_what_was_written.Goals as goal

pub returns : goal.returns
returns c = parts_follow
