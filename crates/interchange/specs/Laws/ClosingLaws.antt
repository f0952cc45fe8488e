-- Closing has one answer, which is what the tests find. Assumes nothing.
use Rattle.std.specs.Prelude.{ℕ, ◌≤◌, ◌<◌, ◌≡◌, List, Bool, true, false, eqb}
use native.Mathlib.Omega.{arith}
use Rattle.std.proofs.Math.Path.{refl}
use Rattle.std.proofs.Common.{sym, ◌∙◌, ap, subst, eqb-true}
use Rattle.std.proofs.lemmas.Bool.{eqb-false}
use Rattle.numbers.specs.declared.Number.{Number}
use Rattle.numbers.specs.Table.{number_told, table_number}
use Rattle.numbers.specs.Laws.TableLaws.{told_one}
use Rattle.interchange.specs.Laws.OpenedLaws.{one_case}
use Rattle.numbers.specs.declared.Number.TheVariants as numbers
use Rattle.std.specs.Prelude.{Option}
use Rattle.std.specs.Prelude.{Some}
use Rattle.std.specs.Prelude.{None}
use Rattle.service.specs.declared.Service.{Service}
use Rattle.service.specs.Tests.{if}
use Rattle.values.specs.Text.{same_list}
use Rattle.values.specs.Numbers.{NumberIs, value_in}
use Rattle.values.specs.Forms.Values.{number_of, is_number}
use Rattle.values.specs.Laws.NumberLaws.{number_is_true, true_number_is}
use Rattle.values.specs.Laws.TextLaws.{same_eq, eq_same}
use Rattle.interchange.specs.Answers.{Opening}
use Rattle.interchange.specs.Answers.{Closing}
use Rattle.interchange.specs.Envelope.{message_count, stray_count, unz_at, closing_with, closing_without}
use Rattle.interchange.specs.Opened.{OpenFault, Opened, OpenedAs, accepted, refused}
use Rattle.interchange.specs.Closed.{CloseFault, count, reference, stray, LeastOrNone, least, none, ClosedAs, unopened, closes}
use Rattle.interchange.specs.Forms.Answers.{opening_of, closing_fault, closed_by, closing_by, closing_of}
use Rattle.interchange.specs.Laws.OpenedLaws.{no_fault, is_opening, one_least, one_opened}
use Rattle.interchange.specs.Laws.WithinLaws.{few_counted}

-- ---- what the tests find is the answer
module _ (v : Service) (s : List ℕ) (first : ℕ) where
  least_5 : (k : ℕ) → CloseFault v s first k → 5 ≤ k
  least_5 k (count w e) = omega arith
  least_5 k (reference w e) = omega arith
  least_5 k (stray w e) = omega arith

  module _ (c : NumberIs (value_in v (unz_at v s first) s 1 0) (message_count v s first)) where
    least_6 : (k : ℕ) → CloseFault v s first k → 6 ≤ k
    least_6 k (count w e) = absurd (w c)
    least_6 k (reference w e) = omega arith
    least_6 k (stray w e) = omega arith

    module _ (r : value_in v (unz_at v s first) s 2 0 ≡ value_in v first s 5 0) where
      least_7 : (k : ℕ) → CloseFault v s first k → 7 ≤ k
      least_7 k (count w e) = absurd (w c)
      least_7 k (reference w e) = absurd (w r)
      least_7 k (stray w e) = omega arith

      none_left : stray_count v s first ≡ 0 → (k : ℕ) → CloseFault v s first k → ⊥
      none_left z k (count w e) = w c
      none_left z k (reference w e) = w r
      none_left z k (stray w e) = w z

  by_tests : message_count v s first < 10000000000000000000 → (a b c : Bool) → is_number (number_of (value_in v (unz_at v s first) s 1 0)) (message_count v s first) ≡ a
      → same_list (value_in v first s 5 0) (value_in v (unz_at v s first) s 2 0) ≡ b → eqb (stray_count v s first) 0 ≡ c → LeastOrNone (CloseFault v s first) (number_told (if a (if b (if c None (Some numbers.Strays)) (Some numbers.Reference)) (Some numbers.Count)))
  by_tests h true true true p q r =
      none (none_left (number_is_true (value_in v (unz_at v s first) s 1 0) (message_count v s first) p) (sym (same_eq (value_in v first s 5 0) (value_in v (unz_at v s first) s 2 0) q)) (eqb-true (stray_count v s first) 0 r)) refl
  by_tests h true true false p q r =
      least (record {
        one = stray (eqb-false (stray_count v s first) 0 r) refl;
        least = least_7 (number_is_true (value_in v (unz_at v s first) s 1 0) (message_count v s first) p) (sym (same_eq (value_in v first s 5 0) (value_in v (unz_at v s first) s 2 0) q));
      })
  by_tests h true false c p q r =
      least (record {
        one = reference (λ e. let x = eq_same (value_in v first s 5 0) (value_in v (unz_at v s first) s 2 0) (sym e) in let z : ◌≡◌ {A = ℕ} 0 1 = cc in omega arith) refl;
        least = least_6 (number_is_true (value_in v (unz_at v s first) s 1 0) (message_count v s first) p);
      })
  by_tests h false b c p q r =
      least (record {
        one = count (λ e. let x = true_number_is (value_in v (unz_at v s first) s 1 0) (message_count v s first) e h in let z : ◌≡◌ {A = ℕ} 0 1 = cc in omega arith) refl;
        least = least_5;
      })

  closed_by_lem : Opened s v first → ClosedAs s (closed_by v s first)
  unfolding closed_by closing_fault
  closed_by_lem o =
      let m = few_counted s v first o in
      let h : message_count v s first < 10000000000000000000 = omega arith in
      closes v first _ o
      (by_tests h (is_number (number_of (value_in v (unz_at v s first) s 1 0)) (message_count v s first)) (same_list (value_in v first s 5 0) (value_in v (unz_at v s first) s 2 0)) (eqb (stray_count v s first) 0) refl refl refl)

by_opening_lem : (s : List ℕ) {o : Opening} → OpenedAs s o → ClosedAs s (closing_by s o)
by_opening_lem s (accepted v first o) = closed_by_lem v s first o
by_opening_lem s (refused n l) = unopened n l

found_closing : (s : List ℕ) → ClosedAs s (closing_of s)
unfolding closing_of
found_closing s = by_opening_lem s (is_opening s (opening_of s) refl)

pub is_closing : (s : List ℕ) (c : Closing) → c ≡ closing_of s → ClosedAs s c
is_closing s c e = subst (ClosedAs s) (sym e) (found_closing s)

-- ---- and there is no other
one_number : (p : ℕ → Type 0) (n m : ℕ) → LeastOrNone p n → LeastOrNone p m → n ≡ m
one_number p n m (least x) (least y) = one_least p n m x y
one_number p n m (least x) (none f e) = absurd (f n x.one)
one_number p n m (none f e) (least y) = absurd (f m y.one)
one_number p n m (none f e) (none g d) = e ∙ sym d

one_with : (s : List ℕ) (n m : Option Number) (v : Service) (first : ℕ) (w : Service) (f : ℕ) → v ≡ w → first ≡ f → LeastOrNone (CloseFault v s first) (number_told n) → LeastOrNone (CloseFault w s f) (number_told m)
    → closing_with n v s first ≡ closing_with m w s f
one_with s n m v first w f p q x y =
    let z : LeastOrNone (CloseFault w s f) (number_told n) = subst (λ (u : Service). LeastOrNone (CloseFault u s f) (number_told n)) p (subst (λ (i : ℕ). LeastOrNone (CloseFault v s i) (number_told n)) q x) in
    rw (p, q, told_one n m (one_number (CloseFault w s f) (number_told n) (number_told m) z y))

pub one_closing : (s : List ℕ) {a b : Closing} → ClosedAs s a → ClosedAs s b → a ≡ b
one_closing s (unopened n x) (unopened m y) = ap closing_without (one_case (OpenFault s) n m x y)
one_closing s (unopened n x) (closes v first m o y) = absurd (no_fault s v first o (table_number n) x.one)
one_closing s (closes v first n o x) (unopened m y) = absurd (no_fault s v first o (table_number m) y.one)
one_closing s (closes v first n o x) (closes w f m q y) = let e = one_opened s v first w f o q in one_with s n m v first w f e.0 e.1 x y

pub closing_is : (s : List ℕ) (c : Closing) → ClosedAs s c → c ≡ closing_of s
closing_is s c w = one_closing s w (found_closing s)
