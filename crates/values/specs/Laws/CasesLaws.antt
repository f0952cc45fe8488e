-- Rows 1 to 8 and 13 of the cases hold. Assumes nothing.
use Rattle.std.specs.Prelude.{ℕ, ◌+◌, ◌≡◌, refl}
use Rattle.std.proofs.Common.{sym, ap₂, subst}
use Rattle.service.specs.Service.{is_mark}
use Rattle.segments.specs.Classes.{class_of}
use Rattle.segments.specs.SegmentList.{pieces}
use Rattle.parts.specs.Parts.{lex, elements}
use Rattle.values.specs.Text.{text}
use Rattle.values.specs.Forms.Values.{one_more, fraction, units}
use Rattle.values.specs.Laws.AmountIsLaws.{amount_of_lem, amount_not, amount_one}
use Rattle.values.specs.Cases.{Is, Cases, Row8}

tenths : Row8
unfolding text is_mark one_more fraction units
tenths a b p q =
    let x : a ≡ 100 = amount_one (text "0,1") a 100 p (amount_of_lem (text "0,1") 100 refl) in
    let y : b ≡ 200 = amount_one (text "0,2") b 200 q (amount_of_lem (text "0,2") 200 refl) in
    let s : a + b ≡ 300 = ap₂ (λ (m : ℕ) (n : ℕ). m + n) x y in
    (s, subst (λ n. Is "0,3" n) (sym s) (amount_of_lem (text "0,3") 300 refl))

pub cases : Cases
unfolding text class_of lex elements pieces is_mark one_more fraction units
cases = record {
  one = refl;
  two = (refl, refl);
  three = amount_of_lem _ _ refl;
  four = amount_of_lem _ _ refl;
  five = amount_of_lem _ _ refl;
  six = (amount_not _ refl, amount_not _ refl, amount_not _ refl);
  seven = (amount_of_lem _ _ refl, amount_not _ refl);
  eight = tenths;
  thirteen = (amount_of_lem _ _ refl, amount_of_lem _ _ refl, amount_not _ refl, amount_not _ refl, amount_not _ refl, amount_not _ refl);
}
