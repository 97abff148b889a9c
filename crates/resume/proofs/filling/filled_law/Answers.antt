use Rattle.resume.proofs.Filled.{ended-complete, filled-begun, filled-serial, fills-begins, fills-legal}
use Rattle.resume.proofs.OnlyFilled.{only-filled}
use Rattle.resume.proofs.filling.filled_law.Goals as goal

pub returns-clause-legal : goal.returns-clause-legal
returns-clause-legal c = λ air first journal sound l f. fills-legal air first journal l f.steps

pub returns-clause-complete : goal.returns-clause-complete
returns-clause-complete c = λ air first journal sound l f. ended-complete air journal sound (fills-legal air first journal l f.steps) f.ended

pub returns-clause-begins : goal.returns-clause-begins
returns-clause-begins c = λ air first journal f. fills-begins air first journal f.steps

pub returns-clause-serial : goal.returns-clause-serial
returns-clause-serial c = λ air journal sound f. filled-serial air journal sound f

pub returns-clause-begun : goal.returns-clause-begun
returns-clause-begun c = λ air first whole journal sound s b f. filled-begun air first whole journal sound s b f

pub returns-clause-only : goal.returns-clause-only
returns-clause-only c = λ air begun one other f g. only-filled air begun one other f g
