-- Lists of 9,999 entries are as good as long enough ones: where they are too short, 13 is told before 14. Assumes nothing.
use Rattle.std.specs.Prelude.{ℕ, ◌≤◌, ◌<◌, ◌≡◌, refl, ◌⊎◌, List, [], ◌∷◌, ◌++◌, Bool, false}
use native.Mathlib.Omega.{arith}
use Rattle.std.proofs.Math.Decide.{dec_lt}
use Rattle.std.proofs.Common.{sym, subst, ◌∙◌, inl, inr, true≢false}
use Rattle.std.proofs.Math.Bool.{true}
use Rattle.std.proofs.Math.ListN.{length}
use Rattle.numbers.specs.Table.{table_number}
use borrow.Author.Tests.{le-leb, lt-leb}
use Rattle.service.specs.declared.Service.{Service}
use Rattle.lent.specs.Lists.{Lists, lists}
use Rattle.message.specs.Faults.{rank, Told, told, tell, tell_all}
use Rattle.report.specs.Answers.{Report}
use Rattle.report.specs.Reported.{Bare, bare_of, told_unless, asked, Room, room_of, fits, early, In, here, there, Applies, soon, misfit, late, Lowest, Reported, accepted, refused}
use Rattle.report.specs.Judged.{Judged, judged}
use Rattle.report.specs.Laws.FreeLaws.{told_in, up_to_twelve, thirteen, free_fits}
use Rattle.report.specs.Laws.JudgeLaws.{asked_few, bytes_enough}
use Rattle.report.specs.Laws.LeastLaws.{nowhere}

in_behind : (k l l' : List Told) (a : Told) → (In a l → In a l') → In a (k ++ l) → In a (k ++ l')
in_behind [] l l' a f i = f i
in_behind (b ∷ k) l l' a f here = here
in_behind (b ∷ k) l l' a f (there i) = there (in_behind k l l' a f i)

-- what is told by the rules in front stays told, whatever follows
in_front : (front l l' : List (ℕ × List ℕ)) (a : Told) → (In a (tell_all l) → In a (tell_all l')) → In a (tell_all (front ++ l)) → In a (tell_all (front ++ l'))
unfolding tell_all
in_front [] l l' a f i = f i
in_front (r ∷ rs) l l' a f i = in_behind (tell r.0 r.1) (tell_all (rs ++ l)) (tell_all (rs ++ l')) a (in_front rs l l' a f) i

-- 14 tells of 14 alone
only_fourteen : (b : Bool) (a : Told) (l : List (ℕ × List ℕ)) → (a.number ≡ 14 → ⊥) → In a (tell_all ((14, told_unless b 0) ∷ [])) → In a (tell_all l)
unfolding tell_all tell
only_fourteen true a l h i = absurd (nowhere a [] refl i)
only_fourteen false a l h here = absurd (h refl)
only_fourteen false a l h (there i) = absurd (nowhere a [] refl i)

not_told : (a : Told) (l : List (ℕ × List ℕ)) → In a (tell_all ((14, []) ∷ [])) → In a (tell_all l)
unfolding tell_all tell
not_told a l i = absurd (nowhere a [] refl i)

module _ (v : Service) (m : List ℕ) where
  abbrev b : Bare
  b = bare_of v m

  abbrev front : List (ℕ × List ℕ)
  front = up_to_twelve b ++ thirteen b ∷ []

  abbrev fourteen : Bool → List (ℕ × List ℕ)
  fourteen t = (14, told_unless t 0) ∷ []

  early_is : (x : Room) (t : Bool) → fits b.segments x ≡ t → early b x ≡ front ++ fourteen t
  unfolding early
  early_is x t e = rw e

  module _ (x z : Room) (t : Bool) (e : fits b.segments x ≡ t) (f : fits b.segments z ≡ true) where
    abbrev TellsOf : ℕ → ℕ → List (ℕ × List ℕ) → Type 0
    TellsOf n s l = In (told n s) (tell_all l)

    -- what applies with lists that are long enough applies with any, and but for 14 the other way round
    applies_more : (n s : ℕ) → Applies v m z n s → Applies v m x n s
    applies_more n s (soon i) = soon (subst (TellsOf n s) (sym (early_is x t e)) (in_front front (fourteen true) (fourteen t) (told n s) (not_told (told n s) (fourteen t)) (subst (TellsOf n s) (early_is z true f) i)))
    applies_more n s (misfit k o j g p q) = misfit k o j g p q
    applies_more n s (late k o rows r i) = late k o rows r i

    applies_less : (n s : ℕ) → (n ≡ 14 → ⊥) → Applies v m x n s → Applies v m z n s
    applies_less n s h (soon i) = soon (subst (TellsOf n s) (sym (early_is z true f)) (in_front front (fourteen t) (fourteen true) (told n s) (only_fourteen t (told n s) (fourteen true) h) (subst (TellsOf n s) (early_is x t e) i)))
    applies_less n s h (misfit k o j g p q) = misfit k o j g p q
    applies_less n s h (late k o rows r i) = late k o rows r i

  module _ (x : Lists) (long : (9999 ≤ length x.rows) × (9999 ≤ length x.starts) × (9999 ≤ length x.totals)) (e : fits b.segments (room_of x) ≡ false) where
    many : 9999 < length b.segments
    unfolding fits
    many = go (dec_lt 9999 (length b.segments))
      where
        fit : length b.segments ≤ 9999 → fits b.segments (room_of x) ≡ true
        fit h =
            let p = long.0 in
            let q = long.1 in
            let r = long.2 in
            let c = asked_few b.segments in
            rw (le-leb (length b.segments) (length x.rows) (omega arith), le-leb (length b.segments) (length x.starts) (omega arith), le-leb (asked b.segments) (length x.totals) (omega arith))

        go : Dec (9999 < length b.segments) → 9999 < length b.segments
        go (yes h) = h
        go (no h) = absurd (true≢false (sym (fit (omega arith)) ∙ e))

    thirteen_told : Applies v m (room_of x) 13 10000
    unfolding early
    thirteen_told = soon (rw (lt-leb (length b.segments) 9999 many) (told_in (up_to_twelve b) ((14, told_unless (fits b.segments (room_of x)) 0) ∷ []) 13 10000))

    -- so the lowest number is not 14
    other : (n s : ℕ) → Lowest v m (room_of x) n s → n ≡ 14 → ⊥
    unfolding rank
    other n s l q = go (l.least 13 10000 thirteen_told)
      where
        go : (rank n < rank 13) ⊎ ((n ≡ 13) × (s ≤ 10000)) → ⊥
        go (inl h) = omega arith
        go (inr h) = let p = h.0 in omega arith

    lowest_same : (z : Room) → fits b.segments z ≡ true → (n s : ℕ) → Lowest v m (room_of x) n s → Lowest v m z n s
    lowest_same z f n s l = record {
      applies = applies_less (room_of x) z false e f n s (other n s l) l.applies;
      least = λ k t i. l.least k t (applies_more (room_of x) z false e f k t i);
    }

    judged_short : (x' : Lists) (y : Report) → Reported v m x x' y → Judged v m y
    judged_short x' y (accepted c k o rows r free q p) = absurd (true≢false (sym (free_fits v m (room_of x) free) ∙ e))
    judged_short x' y (refused g l o p) = judged (lists m m m) (lists m m m) (bytes_enough v m) (refused g (lowest_same (room_of (lists m m m)) (bytes_enough v m) (table_number g.number) g.segment l) o refl)

  pub long_judged : (x x' : Lists) (y : Report) → (9999 ≤ length x.rows) × (9999 ≤ length x.starts) × (9999 ≤ length x.totals) → Reported v m x x' y → Judged v m y
  long_judged x x' y long w = go (fits b.segments (room_of x)) refl
    where
      go : (t : Bool) → fits b.segments (room_of x) ≡ t → Judged v m y
      go true e = judged x x' e w
      go false e = judged_short x long e x' y w
