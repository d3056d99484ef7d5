-- `shrunk`: the lists' answer, and the united table shrunk. Assumes nothing.
use Rattle.intake_lists.proofs.Answering.{shrunk_held}
use Rattle.intake.proofs.shrunk.Goals as goal

pub returns : goal.returns
returns c = shrunk_held _ _ _ c.unite_all-united.ensures _ _ _ c.finish.ensures
