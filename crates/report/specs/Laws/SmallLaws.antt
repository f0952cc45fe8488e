-- Every place that a rule tells is the number of a segment. Assumes nothing.
use Rattle.std.specs.Prelude.{ℕ, suc, ◌+◌, ◌≤◌, Bool, ◌&&◌, ◌||◌, eqb, length}
use Rattle.std.proofs.Common.{arith}
use mathlib.Core.List.{List, [], ◌∷◌, ◌++◌}
use Rattle.std.proofs.Math.Bool.{true, false, not}
use Rattle.service.specs.declared.Service.{Service}
use Rattle.service.specs.Tests.{if, alike}
use Rattle.values.specs.Text.{same_list, says}
use Rattle.values.specs.Forms.Values.{amount_of}
use Rattle.segments.specs.SegmentList.{starts_of}
use Rattle.message.specs.Segs.{Seg, Stretch, segs_from, segs_of, those, until, stretches, each, LIN, MOA5, CUX5, FII6, NAD7, PRC10, SEQ, MOA11, FII12, NAD13, PRC16, FTX16, DOC17, CNT, UNT, is, orders, payments, details}
use Rattle.message.specs.Rules.{writes, capitals, is_of, worth, count, some, reference, qualifier, amount, currency, cux_holds, sum, named, party, order_holds, payment_holds, details_hold, fault21, fault23, fault24, fault25, fault26, fault27_b, fault27_c, fault28_b, fault28_c, unless, failing, misnumbered, rule17, rule18, rule20, rule21, rule22, rule23, rule24, rule25, rule26, rule27, rule28, rule29, paymul_of}
use Rattle.message.specs.Advices as advice
use Rattle.message.specs.Advices.{rule30, rule31, pre_advice, date_holds, fault31, fault31_c, debmul_of}
use Rattle.kinds.specs.declared.Kind.{Kind}
use Rattle.kinds.specs.declared.Kind.TheVariants.{Paymul, Debmul}
use Rattle.message.specs.Kinds.{means, rules_for}
use Rattle.message.specs.Faults.{told, tell_all}
use Rattle.report.specs.Reported.{In}
use Rattle.report.specs.Laws.ToldLaws.{Every, All, all_told}

-- from 1 to b
abbrev pub Within : ℕ → ℕ → Type 0
Within b n = (1 ≤ n) × (n ≤ b)

abbrev pub Places : ℕ → List ℕ → Type 0
Places b = Every (Within b)

abbrev pub Segs : ℕ → List Seg → Type 0
Segs b [] = Unit {0}
Segs b (s ∷ ss) = Within b s.nth × Segs b ss

module _ (b : ℕ) where
  append_within : (x y : List ℕ) → Places b x → Places b y → Places b (x ++ y)
  append_within [] y h g = g
  append_within (n ∷ x) y h g = (h.0, append_within x y h.1 g)

  unless_within : (t : Bool) (s : Seg) → Within b s.nth → Places b (unless t s)
  unless_within true s h = tt
  unless_within false s h = (h, tt)

  failing_within : (t : Seg → Bool) (ss : List Seg) → Segs b ss → Places b (failing t ss)
  unfolding failing
  failing_within t [] h = tt
  failing_within t (s ∷ ss) h = append_within (unless (t s) s) (failing t ss) (unless_within (t s) s h.0) (failing_within t ss h.1)

  numbered_within : (e k : ℕ) (ss : List Seg) → Segs b ss → Places b (misnumbered e k ss)
  unfolding misnumbered
  numbered_within e k [] h = tt
  numbered_within e k (s ∷ ss) h = append_within (unless (writes (s.value e 0) k) s) (misnumbered e (suc k) ss) (unless_within (writes (s.value e 0) k) s h.0) (numbered_within e (suc k) ss h.1)

  keep_within : (t : Bool) (s : Seg) (x y : List Seg) → Within b s.nth → Segs b x → Segs b y → Segs b (if t (s ∷ x) y)
  keep_within true s x y h g k = (h, g)
  keep_within false s x y h g k = k

  stop_within : (t : Bool) (s : Seg) (x : List Seg) → Within b s.nth → Segs b x → Segs b (if t [] (s ∷ x))
  stop_within true s x h g = tt
  stop_within false s x h g = (h, g)

  those_within : (t : Seg → Bool) (ss : List Seg) → Segs b ss → Segs b (those t ss)
  unfolding those
  those_within t [] h = tt
  those_within t (s ∷ ss) h = keep_within (t s) s (those t ss) (those t ss) h.0 (those_within t ss h.1) (those_within t ss h.1)

  until_within : (t : Seg → Bool) (ss : List Seg) → Segs b ss → Segs b (until t ss)
  unfolding until
  until_within t [] h = tt
  until_within t (s ∷ ss) h = stop_within (t s) s (until t ss) h.0 (until_within t ss h.1)

  module _ (f : Stretch → List ℕ) (w : (s : Seg) (ss : List Seg) → Within b s.nth → Segs b ss → Places b (f (record { head = s; body = ss }))) (opens ends : Seg → Bool) where
    each_by : (t : Bool) (s : Seg) (x : List Seg) (l : List Stretch) → Within b s.nth → Segs b x → Places b (each f l) → Places b (each f (if t (record { head = s; body = x } ∷ l) l))
    unfolding each
    each_by true s x l h g k = append_within (f (record { head = s; body = x })) (each f l) (w s x h g) k
    each_by false s x l h g k = k

    each_within : (ss : List Seg) → Segs b ss → Places b (each f (stretches opens ends ss))
    unfolding each stretches
    each_within [] h = tt
    each_within (s ∷ ss) h = each_by (opens s) s (until ends ss) (stretches opens ends ss) h.0 (until_within ends ss h.1) (each_within ss h.1)

  -- a stretch's head, and a test of some of its segments
  head_and : (t : Bool) (u k : Seg → Bool) (s : Seg) (ss : List Seg) → Within b s.nth → Segs b ss → Places b (unless t s ++ failing u (those k ss))
  head_and t u k s ss h g = append_within (unless t s) (failing u (those k ss)) (unless_within t s h) (failing_within u (those k ss) (those_within k ss g))

  paymul_within : (k n : ℕ) (m : List Seg) → Segs b m → All (λ n. Within b) (paymul_of k n m)
  unfolding rule17 rule18 rule20 rule21 rule22 rule23 rule24 rule25 rule26 rule27 rule28 rule29
  paymul_within k n m h = (
    failing_within (λ s. writes (s.value 1 0) k) (those (is UNT) m) (those_within (is UNT) m h),
    (
      failing_within (λ s. same_list (s.value 2 0) (reference m)) (those (is UNT) m) (those_within (is UNT) m h),
      (
        numbered_within 1 1 (those (is LIN) m) (those_within (is LIN) m h),
        (
          each_within fault21 (λ s ss p q. numbered_within 2 1 (those (is SEQ) ss) (those_within (is SEQ) ss q)) (is LIN) (is LIN) m h,
          (
            failing_within (λ s. is_of (amount_of (amount s))) (those (λ s. is MOA5 s || is MOA11 s) m) (those_within (λ s. is MOA5 s || is MOA11 s) m h),
            (
              each_within fault23 (λ s ss p q. head_and (says (qualifier s) "9" || says (qualifier s) "57") (λ u. same_list (qualifier u) (qualifier s)) (is MOA11) s ss p q) (is MOA5) (λ s. is LIN s || is MOA5 s) m h,
              (
                each_within fault24 (λ s ss p q. head_and (capitals (currency s)) (λ u. same_list (currency u) (currency s)) (is MOA11) s ss p q) (is MOA5) (λ s. is LIN s || is MOA5 s) m h,
                (
                  each_within fault25 (λ s ss p q. head_and (not (says (qualifier s) "57") || some (is CUX5) ss) (λ u. says (qualifier s) "57" && cux_holds (currency s) u.value) (is CUX5) s ss p q) (is MOA5) (λ s. is LIN s || is MOA5 s) m h,
                  (
                    each_within fault26 (λ s ss p q. unless_within (eqb (worth (amount_of (amount s))) (sum (those (is MOA11) ss))) s p) (is MOA5) (λ s. is LIN s || is MOA5 s) m h,
                    (
                      append_within (each fault27_b (orders m)) (each fault27_c (payments m))
                          (each_within fault27_b (λ s ss p q. unless_within (order_holds (count (party FII6 "OR") ss) (some (λ s. party FII6 "OR" s && named s) ss) (count (party NAD7 "PL") ss) (count (party NAD7 "OY") ss)) s p) (is LIN) (is LIN) m h)
                          (each_within fault27_c (λ s ss p q. unless_within (payment_holds (count (party FII12 "BF") ss) (some (λ s. party FII12 "BF" s && named s) ss) (count (party NAD13 "PE") ss) (count (party NAD13 "BE") ss)) s p) (is SEQ) (λ s. is LIN s || is SEQ s) m h),
                      (
                        append_within (each fault28_b (orders m)) (each fault28_c (details m))
                            (each_within fault28_b (λ s ss p q. failing_within (λ u. not (some (is PRC10) ss)) (those (is PRC16) ss) (those_within (is PRC16) ss q)) (is LIN) (is LIN) m h)
                            (each_within fault28_c (λ s ss p q. unless_within (details_hold (s.value 1 0) (some (is FTX16) ss) (some (is DOC17) ss)) s p) (is PRC16) (λ s. is LIN s || is SEQ s || is PRC16 s) m h),
                        (
                          failing_within (λ s. writes (s.value 1 1) n) (those (λ s. is CNT s && says (s.value 1 0) "2") m) (those_within (λ s. is CNT s && says (s.value 1 0) "2") m h),
                          tt,
                        ),
                      ),
                    ),
                  ),
                ),
              ),
            ),
          ),
        ),
      ),
    ),
  )

  debmul_within : (k : ℕ) (m : List Seg) → Segs b m → All (λ n. Within b) (debmul_of k m)
  unfolding rule17 rule18 rule20 rule30 rule31
  debmul_within k m h =
      let unts = those_within (advice.is advice.UNT) m h in
      let count = failing_within (λ s. writes (s.value 1 0) k) (those (advice.is advice.UNT) m) unts in
      let named = failing_within (λ s. same_list (s.value 2 0) (reference m)) (those (advice.is advice.UNT) m) unts in
      let lines = numbered_within 1 1 (those (advice.is advice.LIN) m) (those_within (advice.is advice.LIN) m h) in
      let dates = failing_within (λ s. date_holds (pre_advice m) (s.value 1 0)) (those (advice.is advice.DTM4) m) (those_within (advice.is advice.DTM4) m h) in
      let references = each_within fault31 (λ o body p q. each_within (fault31_c (o.value 2 0)) (λ s ss p' q'. unless_within (alike (some (advice.is advice.RFF11) ss) (not (says (o.value 2 0) "106"))) s p') (advice.is advice.SEQ) (advice.is advice.SEQ) body q) (advice.is advice.LIN) (advice.is advice.LIN) m h in
      (count, (named, (lines, (dates, (references, tt)))))

  rules_within : (c : Kind) (k n : ℕ) (m : List Seg) → Segs b m → All (λ n. Within b) ((means c).rules k n m)
  rules_within Paymul k n m h = paymul_within k n m h
  rules_within Debmul k n m h = debmul_within k m h

-- the segments of a message
segs_within : (v : Service) (m : List ℕ) (b n : ℕ) (rs is : List ℕ) → 1 ≤ n → n + length rs ≤ suc b → Segs b (segs_from v m n rs is)
unfolding segs_from
segs_within v m b n [] is h g = tt
segs_within v m b n (r ∷ rs) [] h g = tt
segs_within v m b n (r ∷ rs) (i ∷ is) h g = ((h, omega arith), segs_within v m b (suc n) rs is (omega arith) (omega arith))

-- so a refusal under 17 to 31 names a segment of the message
pub late_within : (c : Kind) (v : Service) (m rows : List ℕ) (n s : ℕ) → In (told n s) (tell_all (rules_for c (segs_of v m rows))) → Within (length rows) s
late_within c v m rows n s i =
    all_told (λ n. Within (length rows)) (rules_for c (segs_of v m rows)) (told n s) (rules_within (length rows) c _ _ (segs_of v m rows) (segs_within v m (length rows) 1 rows (starts_of v m) (omega arith) (omega arith))) i
