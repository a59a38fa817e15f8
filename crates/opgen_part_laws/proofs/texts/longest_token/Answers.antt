use Rattle.opgen_vhdl.proofs.FrontLemmas.{longest}
use Rattle.opgen_part_laws.proofs.texts.longest_token.Goals as goal

pub returns : goal.returns
returns c = λ kind other text longer rest beyond t u at. longest kind other text longer rest beyond t u at
