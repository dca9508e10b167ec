use Rattle.std.proofs.Common.{Ok, sym}
use Rattle.jc_cap_desc.proofs.Bodied.{bodies_in, installs_in}
use Rattle.jc_cap_desc.proofs.Counting.{rowed}
use Rattle.jc_cap_desc.proofs.Differing.{stand_apart_in}
use Rattle.jc_cap_desc.proofs.Headed.{headed_in}
use Rattle.jc_cap_desc.proofs.laws.read_packages_are_whole.Goals as goal

pub returns-clause-apart : goal.returns-clause-apart
returns-clause-apart c = λ parts p e short. stand_apart_in parts (Ok p) (sym e) short

pub returns-clause-headers : goal.returns-clause-headers
returns-clause-headers c = λ parts p e. headed_in parts (Ok p) (sym e)

pub returns-clause-bodies : goal.returns-clause-bodies
returns-clause-bodies c = λ parts p e. bodies_in parts (Ok p) (sym e)

pub returns-clause-installs : goal.returns-clause-installs
returns-clause-installs c = λ parts p e. installs_in parts (Ok p) (sym e)

pub returns-clause-rows : goal.returns-clause-rows
returns-clause-rows c = rowed
