-- Where a refusal points: to a segment of the message and a byte of it, or to no segment and the first byte. Assumes nothing.
use Rattle.std.specs.Prelude.{ℕ, zero, suc, ◌+◌, ◌≤◌, ◌<◌, ◌≡◌, Bool, length, get_or, leb}
use native.Mathlib.Omega.{arith}
use Rattle.std.proofs.Math.Path.{refl, ap}
use Rattle.std.proofs.Common.{◌∙◌, subst, eq-eqb, ne_eqb, leb-false}
use mathlib.Core.List.{List, [], ◌∷◌, ◌++◌, map}
use Rattle.std.proofs.Math.Bool.{true, false}
use Rattle.std.proofs.lemmas.List.{length-map}
use Rattle.numbers.specs.Table.{table_number}
use Rattle.service.specs.declared.Service.{Service}
use Rattle.service.specs.Service.{Fits, fitting}
use Rattle.service.specs.Tests.{is_empty}
use Rattle.segments.specs.declared.Segment.TheVariants.{Finished, Unfinished}
use Rattle.segments.specs.Forms.Segments.{segment_at}
use Rattle.segments.specs.Laws.SegmentsLaws.{Lies}
use Rattle.segments.specs.declared.Piece.{Piece}
use Rattle.segments.specs.declared.Piece.TheVariants.{Finished as finished, Unfinished as unfinished}
use Rattle.segments.specs.SegmentList.{start_of, segments_from, starts_from, start_at, end_of, end_at}
use Rattle.segments.specs.Laws.StartsLaws.{by_place, starts_count, starts_here}
use Rattle.parts.specs.Parts.{strange_in}
use Rattle.tally.specs.Tallied.{first_place}
use Rattle.interchange.specs.Answers.{Refusal}
use Rattle.interchange.specs.Messages.{ends_closed}
use Rattle.lent.specs.Lists.{Lists}
use Rattle.chart.specs.Tags.{tags_of}
use Rattle.kinds.specs.Kinds.{table_of}
use Rattle.chart.proofs.Whole.{placed_rows}
use Rattle.chart.proofs.Tables.{sound}
use Rattle.message.specs.Segs.{segs_of}
use Rattle.message.specs.Faults.{told}
use Rattle.report.specs.Answers.{Report}
use Rattle.report.specs.Answers.{Refused}
use Rattle.report.specs.Reported.{Room, raw_of, bare_of, told_unless, rule10, headed, fits, early, Applies, soon, misfit, late, offset_of, Reported, accepted, refused}
use Rattle.report.specs.Laws.ToldLaws.{Every, every_map, All, all_told}
use Rattle.report.specs.Laws.EarlyLaws.{numbers_told, late_numbers}
use Rattle.report.specs.Laws.SmallLaws.{late_within}
use Rattle.report.specs.Laws.FillLaws.{rows_are}
use Rattle.report.specs.Laws.PieceLaws.{pieces_tags}
use Rattle.report.specs.Laws.TenLaws.{bad_inside, bad_cut, bad_on}

-- a refusal at the segment before which k stand: there is one; the offset is its start, or, under 10, that of a byte in it
pub record Points (v : Service) (m : List ℕ) (f : Refusal) (k : ℕ) : Type 0 where
  pub some : k < length (segments_from v m 0)
  pub start : (table_number f.number ≡ 10 → ⊥) → f.offset ≡ start_at v m k
  pub from : Fits v → table_number f.number ≡ 10 → start_at v m k ≤ f.offset
  pub to : Fits v → table_number f.number ≡ 10 → f.offset < end_at v m k

-- ---- number 10: a segment where it is told has such a byte
record Spoilt (v : Service) (m : List ℕ) (k : ℕ) (l : List Piece) : Type 0 where
  some : k < length l
  strange : is_empty (strange_in v m (get_or (map start_of l) k (length m))) ≡ false

module _ (v : Service) (m : List ℕ) where
  abbrev Ten : ℕ → List Piece → ℕ → Type 0
  Ten n l s = (k : ℕ) × (s ≡ n + k) × Spoilt v m k l

  later : (n : ℕ) (p : Piece) (l : List Piece) (s : ℕ) → Ten (suc n) l s → Ten n (p ∷ l) s
  later n p l s w = let k = w.0 in let e = w.1 in let b = w.2 in let g = b.some in
      (suc k, omega arith, record { some = omega arith; strange = b.strange })

  tens : (n : ℕ) (l : List Piece) → Every (Ten n l) (rule10 n (map (raw_of v m) l))
  unfolding rule10
  tens n [] = tt
  tens n (p ∷ l) = go (every_map (Ten (suc n) l) (Ten n (p ∷ l)) (later n p l) (rule10 (suc n) (map (raw_of v m) l)) (tens (suc n) l)) (is_empty (strange_in v m (start_of p))) refl
    where
      go : Every (Ten n (p ∷ l)) (rule10 (suc n) (map (raw_of v m) l)) → (b : Bool) → is_empty (strange_in v m (start_of p)) ≡ b → Every (Ten n (p ∷ l)) (told_unless b n ++ rule10 (suc n) (map (raw_of v m) l))
      go rest true e = rest
      go rest false e = ((0, omega arith, record { some = omega arith; strange = e }), rest)

  -- the first of such bytes lies in its segment
  abbrev Inside : Piece → Type 0
  Inside p = (q : ℕ) (r : List ℕ) → strange_in v m (start_of p) ≡ q ∷ r → (start_of p ≤ q) × (q < end_of p)

  abbrev Inner : List Piece → Type 0
  Inner [] = Unit {0}
  Inner (p ∷ l) = Inside p × Inner l

  module _ (f : Fits v) where
    inner_done : (i : ℕ) → length m ≤ i → segments_from v m i ≡ [] → Inner (segments_from v m i)
    inner_done i h q = rw q tt

    inner_cut : (i : ℕ) → i < length m → Unfinished ≡ segment_at v i m → segments_from v m i ≡ unfinished i (length m) ∷ [] → Inner (segments_from v m i)
    inner_cut i h e q = rw q (λ b r c. bad_inside m i (length m) b (omega arith) (bad_cut v f m i h e ∙ ap first_place c), tt)

    inner_on : (i t n : ℕ) → Finished t n ≡ segment_at v i m → Lies m i t n → segments_from v m i ≡ finished i t ∷ segments_from v m n → Inner (segments_from v m n) → Inner (segments_from v m i)
    inner_on i t n e w q ih = rw q (λ b r c. bad_inside m i t b w.from (bad_on v f m i t n e ∙ ap first_place c), ih)

    inner : Inner (segments_from v m 0)
    inner = by_place v m (λ (i : ℕ). Inner (segments_from v m i)) inner_done inner_cut inner_on 0

  at_byte : (l : List Piece) → Inner l → (k : ℕ) → Spoilt v m k l
      → (get_or (map start_of l) k (length m) ≤ get_or (strange_in v m (get_or (map start_of l) k (length m))) 0 0) × (get_or (strange_in v m (get_or (map start_of l) k (length m))) 0 0 < get_or (map end_of l) k (length m))
  at_byte [] h k w = absurd (let g = w.some in omega arith)
  at_byte (p ∷ l) h zero w = go (strange_in v m (start_of p)) refl w.strange
    where
      go : (s : List ℕ) → strange_in v m (start_of p) ≡ s → is_empty s ≡ false → (start_of p ≤ get_or s 0 0) × (get_or s 0 0 < end_of p)
      go [] e c = absurd (let z : ◌≡◌ {A = ℕ} 0 1 = cc in omega arith)
      go (q ∷ r) e c = h.0 q r e
  at_byte (p ∷ l) h (suc k) w = at_byte l h.1 k (record { some = let g = w.some in omega arith; strange = w.strange })

-- ---- what applies
unless_every : (P : ℕ → ℕ → Type 0) (b : Bool) (k s : ℕ) → (b ≡ false → P k s) → Every (P k) (told_unless b s)
unless_every P true k s h = tt
unless_every P false k s h = (h refl, tt)

module _ (v : Service) (m : List ℕ) (long : 0 < length m) where
  -- a segment of the message, and under 10 one with such a byte
  record Named (n k : ℕ) : Type 0 where
    some : k < length (segments_from v m 0)
    ten : n ≡ 10 → Spoilt v m k (segments_from v m 0)

  abbrev Place : ℕ → ℕ → Type 0
  Place n s = (k : ℕ) → s ≡ suc k → Named n k

  not_empty : 0 < length (segments_from v m 0)
  not_empty = go (starts_from v m 0) (starts_here v m 0 (omega arith)) (starts_count v m 0)
    where
      go : (l : List ℕ) → get_or l 0 (length m) ≡ 0 → length l ≡ length (segments_from v m 0) → 0 < length (segments_from v m 0)
      go [] e h = absurd (omega arith)
      go (x ∷ l) e h = omega arith

  no_place : (n : ℕ) → Place n 0
  no_place n k e = absurd (omega arith)

  first_place_lem : (n : ℕ) → (n ≡ 10 → ⊥) → Place n 1
  first_place_lem n h k e = let g = not_empty in record { some = omega arith; ten = λ q. absurd (h q) }

  many : leb (length (map (raw_of v m) (segments_from v m 0))) 9999 ≡ false → Place 13 10000
  many e k q = let g = leb-false (length (map (raw_of v m) (segments_from v m 0))) 9999 e in let z = length-map (segments_from v m 0) (raw_of v m) in record { some = omega arith; ten = λ z. absurd (omega arith) }

  ten_place : (s : ℕ) → Ten v m 1 (segments_from v m 0) s → Place 10 s
  ten_place s w k e = let q = w.1 in let b = w.2 in let z : w.0 ≡ k = omega arith in
      record { some = subst (λ (j : ℕ). j < length (segments_from v m 0)) z b.some; ten = λ _. subst (λ (j : ℕ). Spoilt v m j (segments_from v m 0)) z b }

  early_places : (x : Room) → All Place (early (bare_of v m) x)
  unfolding early
  early_places x =
      let one = unless_every Place (leb (length m) 1048576) 1 0 (λ _. no_place 1) in
      let two = unless_every Place (fitting v) 2 0 (λ _. no_place 2) in
      let ten = every_map (Ten v m 1 (segments_from v m 0)) (Place 10) ten_place (rule10 1 (map (raw_of v m) (segments_from v m 0))) (tens v m 1 (segments_from v m 0)) in
      let unclosed = unless_every Place (ends_closed v m) 11 1 (λ _. first_place_lem 11 (λ e. omega arith)) in
      let header = unless_every Place (headed (map (raw_of v m) (segments_from v m 0))) 12 1 (λ _. first_place_lem 12 (λ e. omega arith)) in
      let over = unless_every Place (leb (length (map (raw_of v m) (segments_from v m 0))) 9999) 13 10000 many in
      let room = unless_every Place (fits (map (raw_of v m) (segments_from v m 0)) x) 14 0 (λ _. no_place 14) in
      (one, (two, (ten, (unclosed, (header, (over, (room, tt)))))))

  -- whatever applies
  applies_place : (x : Room) (n s : ℕ) → Applies v m x n s → Place n s
  applies_place x n s (soon i) = all_told Place (early (bare_of v m) x) (told n s) (early_places x) i
  applies_place x n s (misfit c o j g p q) = λ k e. let w = g.within in let z = pieces_tags v m in record { some = omega arith; ten = λ y. absurd (omega arith) }
  applies_place x n s (late c o rows r i) = λ k e.
      let w = (late_within c v m rows n s i).1 in
      let a = ap length (placed_rows (table_of c) (sound c) (tags_of v m) rows r.placement) in
      let b = rows_are (table_of c) v m in
      let z = pieces_tags v m in
      let u = (numbers_told 17 31 _ (told n s) (late_numbers c (segs_of v m rows)) i).0 in
      record { some = omega arith; ten = λ y. absurd (omega arith) }

  offset_start : (n k : ℕ) → (n ≡ 10 → ⊥) → offset_of v m n (suc k) ≡ start_at v m k
  unfolding offset_of
  offset_start n k h = rw (ne_eqb n 10 h)

  offset_byte : (n k : ℕ) → n ≡ 10 → offset_of v m n (suc k) ≡ get_or (strange_in v m (start_at v m k)) 0 0
  unfolding offset_of
  offset_byte n k e = rw (eq-eqb n 10 e)

  offset_none : (n : ℕ) → offset_of v m n 0 ≡ 0
  unfolding offset_of
  offset_none n = refl

  points : (f : Refusal) (k : ℕ) → f.segment ≡ suc k → f.offset ≡ offset_of v m (table_number f.number) f.segment → Named (table_number f.number) k → Points v m f k
  unfolding starts_from
  points f k e o w =
      let p : f.offset ≡ offset_of v m (table_number f.number) (suc k) = o ∙ ap (offset_of v m (table_number f.number)) e in
      record {
        some = w.some;
        start = λ h. p ∙ offset_start (table_number f.number) k h;
        from = λ u h. let z = p ∙ offset_byte (table_number f.number) k h in let y = (at_byte v m (segments_from v m 0) (inner v m u) k (w.ten h)).0 in omega arith;
        to = λ u h. let z = p ∙ offset_byte (table_number f.number) k h in let y = (at_byte v m (segments_from v m 0) (inner v m u) k (w.ten h)).1 in omega arith;
      }

  module _ (x x' : Lists) where
    place_by : (y : Report) → Reported v m x x' y → (f : Refusal) → y ≡ Refused f → (f.segment ≡ 0 → f.offset ≡ 0) × ((k : ℕ) → f.segment ≡ suc k → Points v m f k)
    place_by y (accepted c i o rows a free e p) f z = absurd (let w : ◌≡◌ {A = ℕ} 0 1 = cc in omega arith)
    place_by y (refused g l o p) f z =
        let w : g ≡ f = cc in
        subst (λ (f : Refusal). (f.segment ≡ 0 → f.offset ≡ 0) × ((k : ℕ) → f.segment ≡ suc k → Points v m f k)) w
        (λ e. o ∙ ap (offset_of v m (table_number g.number)) e ∙ offset_none (table_number g.number), λ k e. points g k e o (applies_place _ (table_number g.number) g.segment l.applies k e))

    -- a refusal of a message that has bytes
    pub refusal_place : (f : Refusal) → Reported v m x x' (Refused f) → (f.segment ≡ 0 → f.offset ≡ 0) × ((k : ℕ) → f.segment ≡ suc k → Points v m f k)
    refusal_place f h = place_by (Refused f) h f refl
