use Rattle.moved_matrix.proofs.KindFound.{is_146, is_256, is_347, is_357, is_467, is_567}
use Rattle.moved_matrix.proofs.forms.kind_of.Goals as goal

pub returns-then-second-lowest-2 : goal.returns-then-second-lowest-2
returns-then-second-lowest-2 c = λ κ h. is_146 c.args.tet.now.at κ h c.if-second-lowest.true c.if-second-lowest-2.true

pub returns-else-second-lowest-2 : goal.returns-else-second-lowest-2
returns-else-second-lowest-2 c = λ κ h. is_256 c.args.tet.now.at κ h c.if-second-lowest.true c.if-second-lowest-2.false

pub returns-then-second-lowest-3 : goal.returns-then-second-lowest-3
returns-then-second-lowest-3 c = λ κ h. is_467 c.args.tet.now.at κ h c.if-second-lowest.false c.if-second-lowest-3.true

pub returns-then-second-lowest-4 : goal.returns-then-second-lowest-4
returns-then-second-lowest-4 c = λ κ h. is_567 c.args.tet.now.at κ h c.if-second-lowest.false c.if-second-lowest-3.false c.if-second-lowest-4.true

pub returns-then-third-lowest : goal.returns-then-third-lowest
returns-then-third-lowest c = λ κ h. is_347 c.args.tet.now.at κ h c.if-second-lowest.false c.if-second-lowest-3.false c.if-second-lowest-4.false c.if-third-lowest.true

pub returns-else-third-lowest : goal.returns-else-third-lowest
returns-else-third-lowest c = λ κ h. is_357 c.args.tet.now.at κ h c.if-second-lowest.false c.if-second-lowest-3.false c.if-second-lowest-4.false c.if-third-lowest.false
