-- The ways through judging, each to `JudgedIn`. Assumes nothing.
use Prim.Native.Nat.{ℕ, zero, suc, ◌+◌, ◌%◌, ◌≤◌, ◌<◌}
use Rattle.std.proofs.Math.Nat.{mod-eq_of_lt}
use Rattle.std.proofs.Common.{arith, ap₂, ◌∙◌, subst, ne_eqb, le-leb, le-ltb, lt-ltb, leb-true}
use Rattle.std.proofs.Math.Decide.{dec_lt}
use Rattle.std.specs.Prelude.{◌≡◌, List, [], map, Bool, true, false, ◌&&◌, length, eqb, leb, Option, None, Some, Result, Ok, Err, ⊤}
use Rattle.std.proofs.Math.Path.{refl, sym, ap}
use Rattle.std.proofs.lemmas.List.{length-map}
use Rattle.std.proofs.lemmas.Bool.{lt-leb}
use Rattle.faults.specs.Firsts.{Told}
use Rattle.numbers.specs.declared.Number.{Number}
use Rattle.numbers.specs.Table.{table_number}
use Rattle.faults.specs.Firsts.{told_of}
use Rattle.numbers.specs.declared.Number.TheVariants as numbers
use Rattle.service.specs.declared.Service.{Service}
use Rattle.service.specs.Service.{Fits, fitting}
use Rattle.service.specs.Laws.FitLaws.{fits_if}
use Rattle.service.specs.Tests.{if}
use Rattle.segments.specs.SegmentList.{segments_from}
use Rattle.segments.specs.Laws.StartsLaws.{starts_within}
use Rattle.faults.specs.Firsts.{Fault}
use Rattle.faults.specs.Firsts.{fault_at}
use Rattle.faults.specs.Firsts.{lesser, place_unless, number_first}
use Rattle.tally.specs.declared.Tally.{Tally}
use Rattle.tally.specs.Tallied.{tally_of}
use Rattle.tally.specs.Places.{passed}
use Rattle.interchange.specs.Answers.{Refusal}
use Rattle.interchange.specs.Messages.{ends_closed}
use Rattle.interchange.specs.Envelope.{refusal}
use Rattle.chart.specs.Chart.{Reading}
use Rattle.values.specs.Forms.Codes as codes
use Rattle.chart.specs.Answer.{StuckAt}
use Rattle.chart.proofs.Answers.{unt_stuck}
use Rattle.chart.specs.Tags.{tags_of}
use Rattle.chart.specs.Laws.TagsLaws.{tags_few}
use Rattle.chart.specs.Forms.Next.{rows_of}
use Rattle.chart.proofs.Tables.{sound}
use Rattle.kinds.specs.declared.Kind.{Kind}
use Rattle.kinds.specs.Kinds.{table_of}
use Rattle.message.specs.Forms.Run.{first_of}
use Rattle.message.specs.Segs.{segs_of}
use Rattle.message.specs.Kinds.{means, chart_for, rules_for}
use Rattle.message.specs.Placed.{placed_on}
use Rattle.message.specs.Faults.{told, tell_all, least_of}
use Rattle.report.specs.declared.Counts.{Counts}
use Rattle.report.specs.Answers.{Accepted, Refused}
use Rattle.report.specs.Reported.{Raw, raw_of, bare_of, Room, told_unless, rule10, headed, asked, fits, early, Of, Lowest, offset_of}
use Rattle.report.specs.Forms.Judging.{JudgedIn, accepts, refuses}
use Rattle.report.specs.Laws.EarlyLaws.{early_least, early_lowest, early_none, numbers_told, late_numbers}
use Rattle.report.specs.Laws.LateLaws.{late_none, late_lowest, misfit_lowest}
use Rattle.report.specs.Laws.LeastLaws.{least_told, same_number, same_segment}
use Rattle.report.specs.Laws.SmallLaws.{late_within}
use Rattle.report.specs.Laws.CountLaws.{times, lin_tags, seq_tags}
use Rattle.report.specs.Laws.FillLaws.{rows_are, placed_length}
use Rattle.report.specs.Laws.ClosedLaws.{Closes, closes}
use Rattle.report.specs.Forms.Checks.{ends_with, headed_at, outright, Begun, early_fault, Late, placed, stuck, listed_orders, byte_refusal, start_by, refusal_at}
use Rattle.report.specs.Laws.UntLaws.{closed_is}
use Rattle.report.specs.Laws.PieceLaws.{lines_tags, pieces_tags, number_is}
use Rattle.report.specs.Laws.ChecksLaws.{headed_is, not_none}
use Rattle.report.specs.Laws.KindLaws.{headed_of, asked_is}
use Rattle.report.specs.Laws.TenLaws.{ten_none, ten_at}

-- ---- 1, 2 and 10 to 14 as a chain of tests
first_told : (b : Bool) (s : ℕ) → first_of (told_unless b s) ≡ place_unless b s
unfolding first_of lesser
first_told true s = refl
first_told false s = refl

abbrev chain : Bool → Bool → Option ℕ → Bool → Bool → Bool → Bool → Option Told
chain a g b c d e f =
    number_first 1 (place_unless a 0)
    (number_first 2 (place_unless g 0)
    (number_first 10 b (number_first 11 (place_unless c 1) (number_first 12 (place_unless d 1) (number_first 13 (place_unless e 10000) (number_first 14 (place_unless f 0) None))))))

-- what an Err refuses
abbrev error_or : Result ⊤ Refusal → Refusal
error_or (Ok u) = refusal numbers.TooLong
error_or (Err f) = f

not_refused : (f : Refusal) → ◌≡◌ {A = Result ⊤ Refusal} (Err f) (Ok tt) → ⊥
not_refused f e = let z : ◌≡◌ {A = ℕ} 0 1 = cc in omega arith

-- the number and segment of a fault under 11 to 13
record Plain (n k : ℕ) : Type 0 where
  other : eqb n 10 ≡ false
  some : 1 ≤ k
  few : k ≤ 10000

plain_by : (n k n' k' : ℕ) → fault_at n k ≡ fault_at n' k' → Plain n k → Plain n' k'
plain_by n k n' k' e p =
    let a = same_number n k n' k' e in
    let b = same_segment n k n' k' e in
    let x = p.some in
    let y = p.few in
    record { other = subst (λ (i : ℕ). eqb i 10 ≡ false) a p.other; some = omega arith; few = omega arith }

module _ (n len : ℕ) (f : Bool) where
  early_at : (c h : Bool) → (c ≡ true → len ≡ n) → (a k : ℕ) → early_fault c h n ≡ fault_at a k → (chain true true None c h (leb len 9999) f ≡ fault_at a k) × Plain a k
  early_at false h g a k e = (e, plain_by 11 1 a k e (record { other = refl; some = omega arith; few = omega arith }))
  early_at true false g a k e = (e, plain_by 12 1 a k e (record { other = refl; some = omega arith; few = omega arith }))
  early_at true true g a k e = go (dec_lt 9999 n)
    where
      go : Dec (9999 < n) → (chain true true None true true (leb len 9999) f ≡ fault_at a k) × Plain a k
      go (yes h) =
          let q = g refl in
          let l : 9999 < len = omega arith in
          let w : fault_at 13 10000 ≡ fault_at a k = sym (ap (λ (b : Bool). if b (fault_at 13 10000) None) (lt-ltb 9999 n h)) ∙ e in
          (ap (λ (b : Bool). chain true true None true true b f) (lt-leb len 9999 l) ∙ w, plain_by 13 10000 a k w (record { other = refl; some = omega arith; few = omega arith }))
      go (no h) =
          let l : n ≤ 9999 = omega arith in
          absurd (not_none a k (sym e ∙ ap (λ (b : Bool). if b (fault_at 13 10000) None) (le-ltb 9999 n l)))

  early_pass : (c h : Bool) → (c ≡ true → len ≡ n) → early_fault c h n ≡ None → (c ≡ true) × (h ≡ true) × (chain true true None c h (leb len 9999) f ≡ number_first 14 (place_unless f 0) None)
  early_pass false h g e = absurd (not_none 11 1 e)
  early_pass true false g e = absurd (not_none 12 1 e)
  early_pass true true g e = go (dec_lt 9999 n)
    where
      go : Dec (9999 < n) → (true ≡ true) × (true ≡ true) × (chain true true None true true (leb len 9999) f ≡ number_first 14 (place_unless f 0) None)
      go (yes h) = absurd (not_none 13 10000 (sym (ap (λ (b : Bool). if b (fault_at 13 10000) None) (lt-ltb 9999 n h)) ∙ e))
      go (no h) =
          let q = g refl in
          let l : len ≤ 9999 = omega arith in
          (refl, refl, ap (λ (b : Bool). chain true true None true true b f) (le-leb len 9999 l))

-- ---- what the tally has
abbrev pub tallied : Service → List ℕ → Tally
tallied v m = tally_of v m (segments_from v m 0)

abbrev raws : Service → List ℕ → List Raw
raws v m = map (raw_of v m) (segments_from v m 0)

module _ (v : Service) (m : List ℕ) where
  pub raws_length : length (raws v m) ≡ length (segments_from v m 0)
  raws_length = length-map (segments_from v m 0) (raw_of v m)

  early_chain : (x : Room) → least_of (tell_all (early (bare_of v m) x))
      ≡ chain (leb (length m) 1048576) (fitting v) (first_of (rule10 1 (raws v m))) (ends_closed v m) (headed (raws v m)) (leb (length (raws v m)) 9999) (fits (raws v m) x)
  unfolding early
  early_chain x =
      early_least (bare_of v m) x
      ∙ rw (first_told (leb (length m) 1048576) 0, first_told (fitting v) 0, first_told (ends_closed v m) 1, first_told (headed (raws v m)) 1, first_told (leb (length (raws v m)) 9999) 10000, first_told (fits (raws v m) x) 0)

  module _ (x : Room) where
    refuse_by : (n : Number) (k o : ℕ) (f : Refusal) → f.number ≡ n → f.segment ≡ k → f.offset ≡ o → Lowest v m x (table_number n) k → o ≡ offset_of v m (table_number n) k → JudgedIn v m x (Refused f)
    refuse_by n k o f a b c l q =
        let e : f ≡ record { number = n; segment = k; offset = o } = λ i. record { number = a i; segment = b i; offset = c i } in
        subst (λ (g : Refusal). JudgedIn v m x (Refused g)) (sym e) (refuses (record { number = n; segment = k; offset = o }) l q)

    -- 1
    pub check_long : 1048576 < length m → (f : Refusal) → f ≡ refusal numbers.TooLong → JudgedIn v m x (Refused f)
    unfolding offset_of
    check_long h f e =
        refuse_by numbers.TooLong 0 0 f (ap (λ (g : Refusal). g.number) e) (ap (λ (g : Refusal). g.segment) e) (ap (λ (g : Refusal). g.offset) e)
        (early_lowest v m x 1 0 (early_chain x ∙ rw (lt-leb (length m) 1048576 h))) refl

    -- 2
    check_unfit : length m ≤ 1048576 → fitting v ≡ false → (f : Refusal) → f ≡ refusal numbers.Characters → JudgedIn v m x (Refused f)
    unfolding offset_of
    check_unfit h g f e =
        refuse_by numbers.Characters 0 0 f (ap (λ (g : Refusal). g.number) e) (ap (λ (g : Refusal). g.segment) e) (ap (λ (g : Refusal). g.offset) e)
        (early_lowest v m x 2 0 (early_chain x ∙ rw (le-leb (length m) 1048576 h, g))) refl

    -- 1 and 2
    pub check_outright : (r : Result ⊤ Refusal) → r ≡ outright (leb (length m) 1048576) (fitting v) → (f : Refusal) → r ≡ Err f → JudgedIn v m x (Refused f)
    check_outright r d f e = go (dec_lt 1048576 (length m)) (fitting v) refl
      where
        go : Dec (1048576 < length m) → (b : Bool) → fitting v ≡ b → JudgedIn v m x (Refused f)
        go (yes h) b q =
            let w : outright (leb (length m) 1048576) (fitting v) ≡ Err (refusal numbers.TooLong) = rw (lt-leb (length m) 1048576 h) refl in
            check_long h f (ap error_or (sym e ∙ d ∙ w))
        go (no h) true q =
            let l : length m ≤ 1048576 = omega arith in
            let w : outright (leb (length m) 1048576) (fitting v) ≡ Ok tt = rw (le-leb (length m) 1048576 l, q) refl in
            absurd (not_refused f (sym e ∙ d ∙ w))
        go (no h) false q =
            let l : length m ≤ 1048576 = omega arith in
            let w : outright (leb (length m) 1048576) (fitting v) ≡ Err (refusal numbers.Characters) = rw (le-leb (length m) 1048576 l, q) refl in
            check_unfit l q f (ap error_or (sym e ∙ d ∙ w))

    module _ (d : Kind) (begun : Begun d v m) where
      ready : (length m ≤ 1048576) × (fitting v ≡ true)
      ready = go (leb (length m) 1048576) (fitting v) refl refl (sym begun.ready)
        where
          go : (a b : Bool) → leb (length m) 1048576 ≡ a → fitting v ≡ b → outright a b ≡ Ok tt → (length m ≤ 1048576) × (fitting v ≡ true)
          go true true p q e = (leb-true (length m) 1048576 p, q)
          go true false p q e = absurd (not_refused (refusal numbers.Characters) e)
          go false b p q e = absurd (not_refused (refusal numbers.TooLong) e)

      small : length m ≤ 1048576
      small = ready.0

      fit : Fits v
      fit = fits_if v ready.1

      start_high : (k : ℕ) → start_by v m k ≤ length m
      start_high zero = omega arith
      start_high (suc k) = (starts_within v m 0 (omega arith) k).1

      start_offset : (n k : ℕ) → eqb n 10 ≡ false → 1 ≤ k → start_by v m k ≡ offset_of v m n k
      unfolding offset_of
      start_offset n zero e h = absurd (omega arith)
      start_offset n (suc k) e h = rw e refl

      -- the refusal that `refusal_at` gives
      refuse_at : (n : Number) (k : ℕ) → eqb (table_number n) 10 ≡ false → 1 ≤ k → k ≤ 1048576 → Lowest v m x (table_number n) k → (f : Refusal) → f ≡ refusal_at v m n k → JudgedIn v m x (Refused f)
      refuse_at n k o lo hi l f e =
          let most = small in
          let h = start_high k in
          refuse_by n k (start_by v m k) f (ap (λ (g : Refusal). g.number) e) (ap (λ (g : Refusal). g.segment) e ∙ mod-eq_of_lt (omega arith)) (ap (λ (g : Refusal). g.offset) e ∙ mod-eq_of_lt (omega arith)) l (start_offset (table_number n) k o lo)

      -- 10
      pub check_byte : (z : Tally) → z ≡ tallied v m → (p : ℕ) → z.bad ≡ Some p → (f : Refusal) → f ≡ byte_refusal v m p → JudgedIn v m x (Refused f)
      unfolding offset_of
      check_byte z c p q f e =
          let most = small in
          let b : (tallied v m).bad ≡ Some p = sym (ap (λ (y : Tally). y.bad) c) ∙ q in
          let w = ten_at v fit m p b in
          let g = w.few in
          let d = pieces_tags v m in
          let i = tags_few v m 0 in
          let u = w.low in
          let y : passed (length m) p (segments_from v m 0) % 4294967295 ≡ passed (length m) p (segments_from v m 0) = mod-eq_of_lt (omega arith) in
          refuse_by numbers.Byte (suc (passed (length m) p (segments_from v m 0))) p f (ap (λ (g : Refusal). g.number) e)
          (ap (λ (g : Refusal). g.segment) e ∙ ap (λ (j : ℕ). (j + 1) % 4294967296) y ∙ mod-eq_of_lt (omega arith) ∙ omega arith)
          (ap (λ (g : Refusal). g.offset) e ∙ mod-eq_of_lt (omega arith))
          (early_lowest v m x 10 (suc (passed (length m) p (segments_from v m 0))) (early_chain x ∙ rw (le-leb (length m) 1048576 small, ready.1, w.told) (ap (fault_at 10) (omega arith))))
          (sym w.byte)

      module _ (z : Tally) (c : z ≡ tallied v m) (clean : z.bad ≡ None) where
        quiet : least_of (tell_all (early (bare_of v m) x))
            ≡ chain true true None (ends_closed v m) (headed (raws v m)) (leb (length (raws v m)) 9999) (fits (raws v m) x)
        quiet = early_chain x ∙ rw (le-leb (length m) 1048576 small, ready.1, ten_none v fit m (sym (ap (λ (y : Tally). y.bad) c) ∙ clean))

        segments_as : ends_closed v m ≡ true → length (raws v m) ≡ z.segments
        segments_as h = raws_length ∙ pieces_tags v m ∙ sym (closes v m h).segments ∙ sym (ap (λ (y : Tally). y.segments) c)

        module _ (e : Option Fault) (i : told_of e ≡ early_fault (ends_with v m z.unt) (headed_at v m) z.segments) where
          early_as : told_of e ≡ early_fault (ends_closed v m) (headed (raws v m)) z.segments
          early_as = i ∙ ap₂ (λ (a b : Bool). early_fault a b z.segments) (ap (λ (y : Tally). ends_with v m y.unt) c ∙ closed_is v m) (sym (headed_is v m))

          -- 11 to 13
          early_by : (n : Number) (k : ℕ) → told_of e ≡ fault_at (table_number n) k → (f : Refusal) → f ≡ refusal_at v m n k → JudgedIn v m x (Refused f)
          early_by n k q f g =
              let most = small in
              let w = early_at z.segments (length (raws v m)) (fits (raws v m) x) (ends_closed v m) (headed (raws v m)) segments_as (table_number n) k (sym early_as ∙ q) in
              let hi = w.1.few in
              refuse_at n k w.1.other w.1.some (omega arith) (early_lowest v m x (table_number n) k (quiet ∙ w.0)) f g

          pub check_early : (g : Fault) → e ≡ Some g → (f : Refusal) → f ≡ refusal_at v m g.number g.segment → JudgedIn v m x (Refused f)
          check_early g q = early_by g.number g.segment (ap told_of q)

          module _ (q : e ≡ None) where
            passes : (ends_closed v m ≡ true) × (headed (raws v m) ≡ true)
                × (chain true true None (ends_closed v m) (headed (raws v m)) (leb (length (raws v m)) 9999) (fits (raws v m) x) ≡ number_first 14 (place_unless (fits (raws v m) x) 0) None)
            passes = early_pass z.segments (length (raws v m)) (fits (raws v m) x) (ends_closed v m) (headed (raws v m)) segments_as (sym early_as ∙ ap told_of q)

            shut : Closes v m 0
            shut = closes v m passes.0

            segments_are : z.segments ≡ length (tags_of v m)
            segments_are = ap (λ (y : Tally). y.segments) c ∙ shut.segments

            orders_are : z.orders ≡ times codes.LIN (tags_of v m)
            orders_are = ap (λ (y : Tally). y.orders) c ∙ shut.orders

            payments_are : z.payments ≡ times codes.SEQ (tags_of v m)
            payments_are = ap (λ (y : Tally). y.payments) c ∙ shut.payments

            of : Of d v m
            of = subst (λ (k : Kind). Of k v m) (sym begun.kind) (headed_of v m passes.1)

            asked_as : asked (raws v m) ≡ listed_orders d z.orders
            asked_as = asked_is v m d of ∙ ap (listed_orders d) (lines_tags v m ∙ sym orders_are)

            fits_as : fits (raws v m) x ≡ leb z.segments x.rows && leb z.segments x.starts && leb (listed_orders d z.orders) x.totals
            unfolding fits
            fits_as = rw (segments_as passes.0, asked_as)

            module _ (b : Bool) (w : b ≡ leb z.segments x.rows && leb z.segments x.starts && leb (listed_orders d z.orders) x.totals) where
              early_ends : least_of (tell_all (early (bare_of v m) x)) ≡ number_first 14 (place_unless b 0) None
              early_ends = quiet ∙ passes.2 ∙ ap (λ (y : Bool). number_first 14 (place_unless y 0) None) (fits_as ∙ sym w)

              -- 14
              pub check_room : b ≡ false → (f : Refusal) → f ≡ refusal numbers.Lists → JudgedIn v m x (Refused f)
              unfolding offset_of
              check_room g f h =
                  refuse_by numbers.Lists 0 0 f (ap (λ (g : Refusal). g.number) h) (ap (λ (g : Refusal). g.segment) h) (ap (λ (g : Refusal). g.offset) h)
                  (early_lowest v m x 14 0 (early_ends ∙ rw g)) refl

              module _ (g : b ≡ true) where
                none_early : tell_all (early (bare_of v m) x) ≡ []
                none_early = early_none v m x (early_ends ∙ rw g)

                abbrev rows : List ℕ
                rows = rows_of (table_of d) (tags_of v m)

                module _ (l : Option Fault) where
                  -- 17 to 31
                  late_placed : Reading (chart_for d) (tags_of v m) rows → told_of l ≡ least_of (tell_all (rules_for d (segs_of v m rows)))
                      → (c : Number) (k : ℕ) → told_of l ≡ fault_at (table_number c) k → (f : Refusal) → f ≡ refusal_at v m c k → JudgedIn v m x (Refused f)
                  late_placed rd h c k p f y =
                      let n : ℕ = table_number c in
                      let most = small in
                      let u = sym h ∙ p in
                      let i = least_told (tell_all (rules_for d (segs_of v m rows))) n k u in
                      let lo = (numbers_told 17 31 _ (told n k) (late_numbers d (segs_of v m rows)) i).0 in
                      let within = late_within d v m rows n k i in
                      let hi = within.1 in
                      let a = rows_are (table_of d) v m in
                      let few = tags_few v m 0 in
                      refuse_at c k (ne_eqb n 10 (λ (j : n ≡ 10). omega arith)) within.0 (omega arith)
                      (late_lowest d v m of x rows rd none_early n k u) f y

                  -- 16
                  late_stuck : (p : ℕ) → StuckAt (table_of d) v m p → told_of l ≡ fault_at 16 (passed (length m) p (segments_from v m 0) % 4294967295 + 1)
                      → (c : Number) (k : ℕ) → told_of l ≡ fault_at (table_number c) k → (f : Refusal) → f ≡ refusal_at v m c k → JudgedIn v m x (Refused f)
                  late_stuck p a h c k y f e =
                      let n : ℕ = table_number c in
                      let most = small in
                      let u = unt_stuck (table_of d) (sound d) v m p a shut.before shut.last in
                      let j = u.0 in
                      let fm = u.2 in
                      let lt = fm.within in
                      let few = tags_few v m 0 in
                      let o : passed (length m) p (segments_from v m 0) ≡ j = ap (λ (i : ℕ). passed (length m) i (segments_from v m 0)) u.1 ∙ number_is v m j lt in
                      let i : j % 4294967295 ≡ j = mod-eq_of_lt (omega arith) in
                      let aa : fault_at 16 (j + 1) ≡ fault_at n k = sym (h ∙ ap (λ (i : ℕ). fault_at 16 (i % 4294967295 + 1)) o ∙ ap (λ (i : ℕ). fault_at 16 (i + 1)) i) ∙ y in
                      let n16 = same_number 16 (j + 1) n k aa in
                      let kj = same_segment 16 (j + 1) n k aa in
                      refuse_at c k (subst (λ (i : ℕ). eqb i 10 ≡ false) n16 refl) (omega arith) (omega arith)
                      (subst (λ (i : ℕ). Lowest v m x i k) n16 (subst (λ (i : ℕ). Lowest v m x 16 i) kj (misfit_lowest d v m of x j fm none_early))) f e

                  -- the counts that `rule_fault` is told are the message's
                  counted : Reading (chart_for d) (tags_of v m) rows → told_of l ≡ least_of (tell_all ((means d).rules z.segments z.orders (placed_on (table_of d) v m)))
                      → told_of l ≡ least_of (tell_all (rules_for d (segs_of v m rows)))
                  counted rd h =
                      h
                      ∙ ap (λ (k : ℕ). least_of (tell_all ((means d).rules k z.orders (segs_of v m rows)))) (segments_are ∙ sym (placed_length (table_of d) v m))
                      ∙ ap (λ (n : ℕ). least_of (tell_all ((means d).rules (length (segs_of v m rows)) n (segs_of v m rows)))) (orders_are ∙ sym (lin_tags v m d rd.placement))

                  pub check_late : Late d v m z.segments z.orders (told_of l) → (g : Fault) → l ≡ Some g → (f : Refusal) → f ≡ refusal_at v m g.number g.segment → JudgedIn v m x (Refused f)
                  check_late (placed rd h) g q = late_placed rd (counted rd h) g.number g.segment (ap told_of q)
                  check_late (stuck p a h) g q = late_stuck p a h g.number g.segment (ap told_of q)

                  -- accepted
                  done_by : Late d v m z.segments z.orders (told_of l) → l ≡ None → (n : Counts) → n ≡ record { segments = z.segments; orders = z.orders; payments = z.payments } → JudgedIn v m x (Accepted n)
                  done_by (stuck p a h) y n k = absurd (not_none 16 _ (sym h ∙ ap told_of y))
                  done_by (placed rd h) y n k =
                      let e = orders_are ∙ sym (lin_tags v m d rd.placement) in
                      accepts n d of rows rd (late_none d v m of x rows rd none_early (sym (counted rd h) ∙ ap told_of y))
                      (k ∙ rw (segments_are ∙ sym (placed_length (table_of d) v m), e, payments_are ∙ sym (seq_tags v m d rd.placement)))

                  pub check_done : Late d v m z.segments z.orders (told_of l) → l ≡ None → JudgedIn v m x (Accepted (record { segments = z.segments; orders = z.orders; payments = z.payments }))
                  check_done a y = done_by a y (record { segments = z.segments; orders = z.orders; payments = z.payments }) refl
