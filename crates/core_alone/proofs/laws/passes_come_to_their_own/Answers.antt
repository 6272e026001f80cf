use Rattle.core_alone.proofs.Coming.{comes_by_number, comes_lone}
use Rattle.core_alone.proofs.laws.passes_come_to_their_own.Goals as goal

pub returns-clause-number : goal.returns-clause-number
returns-clause-number c start left k s i v a so at pass mine = comes_by_number left k s so i v at pass a mine

pub returns-clause-lone : goal.returns-clause-lone
returns-clause-lone c start left k s i v a so at pass one = comes_lone left k s so i v at pass one a
