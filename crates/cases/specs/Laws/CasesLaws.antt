-- The rows hold. Assumes nothing.
use Rattle.values.specs.Laws.CasesLaws as values
use Rattle.rewrite.specs.Laws.CasesLaws as rewrite
use Rattle.cases.specs.Laws.MessageCasesLaws.{nine, ten, eleven, thirteen}
use Rattle.cases.specs.Cases.{Cases}

pub cases : Cases
cases = record {
  one = (values.cases).one;
  two = (values.cases).two;
  three = (values.cases).three;
  four = (values.cases).four;
  five = (values.cases).five;
  six = (values.cases).six;
  seven = (values.cases).seven;
  eight = (values.cases).eight;
  nine = nine;
  ten = ten;
  eleven = eleven;
  twelve = (rewrite.cases).twelve;
  thirteen = ((values.cases).thirteen, thirteen);
}
