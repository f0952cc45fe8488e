-- One step from segment to segment. Assumes nothing.
use Rattle.std.specs.Prelude.{ℕ, suc, ◌+◌, ◌-◌, ◌≤◌, ◌<◌, ◌≡◌, refl, List, ◌∷◌, length, drop, get_or}
use Rattle.std.proofs.Math.Decide.{dec_lt}
use Rattle.std.proofs.Common.{arith, sym, ◌∙◌, subst, length-drop, drop-drop, get_or-drop, lt-ltb, le-ltb}
use Rattle.std.proofs.Math.Path.{ap}
use Rattle.std.proofs.Math.ListN.{get_or-eq_default}
use Rattle.service.specs.declared.Service.{Service}
use Rattle.segments.specs.declared.Segment.{Segment}
use Rattle.segments.specs.declared.Segment.TheVariants.{Finished, Unfinished, Nothing}
use Rattle.segments.specs.Forms.Segments.{segment_at}
use Rattle.segments.specs.Laws.SegmentsLaws.{lies, something}
use Rattle.segments.specs.SegmentList.{starts_from, starts_of}
use Rattle.segments.specs.Laws.StartsLaws.{starts_past, starts_finished, starts_unfinished}
use Rattle.chart.specs.declared.Cursor.{Cursor}
use Rattle.chart.specs.Tags.{tag_on, tags_from, tags_of}
use Rattle.chart.specs.Laws.TagsLaws.{tags_past, tags_finished, tags_unfinished}
use Rattle.chart.specs.Forms.Cursor.{tag_at, cursor_at, step_by, step_from, Onward, CursorIs, Stepped, Tagged, Stands}

-- ---- the cursor at a place
module _ (v : Service) (m : List ℕ) (i : ℕ) where
  pub tag_here : i < length m → tag_at v m i ≡ tag_on v m i
  unfolding tag_at
  tag_here h = simp (lt-ltb _ _ h)

  pub tag_past : length m ≤ i → tag_at v m i ≡ 0
  unfolding tag_at
  tag_past h = simp (le-ltb _ _ h)

  pub cursor_here : i < length m → (x : ℕ) → x ≡ tag_on v m i → CursorIs v m i (record { at = i; tag = x })
  cursor_here h x e = record { at = refl; tag = e ∙ sym (tag_here h) }

  pub cursor_past : length m ≤ i → CursorIs v m i (record { at = i; tag = 0 })
  cursor_past h = record { at = refl; tag = sym (tag_past h) }

cursor_eq : (r c : Cursor) → r.at ≡ c.at → r.tag ≡ c.tag → r ≡ c
cursor_eq r c p q = λ k. record { at = p k; tag = q k }

-- ---- the next place
module _ (v : Service) (m : List ℕ) (c : Cursor) (k : Segment) (e : k ≡ segment_at v c.at m) where
  step_by_lem : step_by k v m c ≡ step_from v m c
  unfolding step_from
  step_by_lem = ap (λ (s : Segment). step_by s v m c) e

  pub stepped_next : (t n : ℕ) → k ≡ Finished t n → (r : Cursor) → CursorIs v m n r → Stepped v m c r
  stepped_next t n q r h =
      let w = lies v m c.at k e t n q in
      let l : n ≡ r.at = sym h.at in
      record {
        is = cursor_eq r (cursor_at v m n) h.at h.tag ∙ ap (λ (s : Segment). step_by s v m c) (sym q) ∙ step_by_lem;
        onward = record { further = λ g. omega arith };
      }

  pub stepped_end : k ≡ Unfinished → Stepped v m c (record { at = length m; tag = 0 })
  stepped_end q = record {
    is = ap (λ (s : Segment). step_by s v m c) (sym q) ∙ step_by_lem;
    onward = record { further = λ g. g };
  }

  pub stepped_nothing : k ≡ Nothing → Stepped v m c c
  stepped_nothing q = record {
    is = ap (λ (s : Segment). step_by s v m c) (sym q) ∙ step_by_lem;
    onward = record { further = λ g. absurd (something v m c.at g (sym e ∙ q)) };
  }

-- a loop over a message's segments ends
pub onward_less : (n i j a : ℕ) → a ≡ i → Onward n i j → a < n → n - j < n - a
onward_less n i j a e w h = let l = w.further (let g : i < n = omega arith in g) in omega arith

-- ---- what a step passes: the segment at c, by the segments' laws
pub record Passes (v : Service) (m : List ℕ) (c r : Cursor) : Type 0 where
  pub starts : starts_from v m c.at ≡ c.at ∷ starts_from v m r.at
  pub tags : tags_from v m c.at ≡ tag_at v m c.at ∷ tags_from v m r.at
  pub within : r.at ≤ length m
  pub tagged : Tagged v m r

passes_by : (v : Service) (m : List ℕ) (c : Cursor) → c.at < length m → (k : Segment) → k ≡ segment_at v c.at m → Passes v m c (step_by k v m c)
passes_by v m c h (Finished t n) e = record {
  starts = starts_finished v m c.at (Finished t n) e t n refl;
  tags = tags_finished v m c.at (Finished t n) e t n refl ∙ ap (λ (x : ℕ). x ∷ tags_from v m n) (sym (tag_here v m c.at h));
  within = (lies v m c.at (Finished t n) e t n refl).within;
  tagged = record { tag = refl };
}
passes_by v m c h Unfinished e = record {
  starts = starts_unfinished v m c.at Unfinished e refl ∙ ap (λ (l : List ℕ). c.at ∷ l) (sym (starts_past v m (length m) (omega arith)));
  tags = tags_unfinished v m c.at Unfinished e refl ∙ rw (tag_here v m c.at h, tags_past v m (length m) (omega arith));
  within = omega arith;
  tagged = record { tag = sym (tag_past v m (length m) (omega arith)) };
}
passes_by v m c h Nothing e = absurd (something v m c.at h (sym e))

pub passes : (v : Service) (m : List ℕ) (c r : Cursor) → Stepped v m c r → c.at < length m → Passes v m c r
unfolding step_from
passes v m c r s h = subst (λ (x : Cursor). Passes v m c x) (sym s.is) (passes_by v m c h (segment_at v c.at m) refl)

-- ---- a cursor that is moved by steps keeps the tag of its segment
pub tagged_first : (v : Service) (m : List ℕ) (i : ℕ) (c : Cursor) → CursorIs v m i c → Tagged v m c
tagged_first v m i c h = record { tag = h.tag ∙ ap (tag_at v m) (sym h.at) }

tagged_by : (v : Service) (m : List ℕ) (c : Cursor) → Tagged v m c → (k : Segment) → Tagged v m (step_by k v m c)
tagged_by v m c g (Finished t n) = record { tag = refl }
tagged_by v m c g Unfinished = record { tag = sym (tag_past v m (length m) (omega arith)) }
tagged_by v m c g Nothing = g

pub tagged_next : (v : Service) (m : List ℕ) (c r : Cursor) → Tagged v m c → Stepped v m c r → Tagged v m r
unfolding step_from
tagged_next v m c r g s = subst (λ (x : Cursor). Tagged v m x) (sym s.is) (tagged_by v m c g (segment_at v c.at m))

-- ---- the segments before a cursor
pub stands_first : (v : Service) (m : List ℕ) (c : Cursor) → CursorIs v m 0 c → Stands v m 0 c
stands_first v m c h = let e : c.at ≡ 0 = h.at in record {
  within = omega arith;
  count = omega arith;
  starts = ap (starts_from v m) (sym e);
  tags = ap (tags_from v m) (sym e);
  tagged = tagged_first v m 0 c h;
}

-- what is left of a list, one by one
pub tail_of : (l : List ℕ) (i x : ℕ) (xs : List ℕ) → drop i l ≡ x ∷ xs → drop (i + 1) l ≡ xs
tail_of l i x xs e = sym (drop-drop 1 i l) ∙ ap (drop 1) e

pub head_of : (l : List ℕ) (i x d : ℕ) (xs : List ℕ) → drop i l ≡ x ∷ xs → get_or l i d ≡ x
head_of l i x d xs e = let z : i ≡ i + 0 = omega arith in ap (λ (n : ℕ). get_or l n d) z ∙ sym (get_or-drop i l 0 d) ∙ ap (λ (k : List ℕ). get_or k 0 d) e

pub none_of : (l : List ℕ) (n : ℕ) → length (drop n l) ≡ 0 → length l ≤ n
none_of l n e = omega (arith, length-drop n l)

module _ (v : Service) (m : List ℕ) (i : ℕ) (c : Cursor) (s : Stands v m i c) where
  -- a segment is left: its tag and its start
  pub stands_lt : c.at < length m → i < length (tags_of v m)
  stands_lt h =
      let p = passes_by v m c h (segment_at v c.at m) refl in
      let n : length (tags_of v m) - i ≡ suc (length (tags_from v m (step_by (segment_at v c.at m) v m c).at)) = sym (length-drop i (tags_of v m)) ∙ ap length (s.tags ∙ p.tags) in
      omega arith

  pub stands_next : (r : Cursor) → Stepped v m c r → c.at < length m → Stands v m (i + 1) r
  stands_next r t h = let p = passes v m c r t h in record {
    within = p.within;
    count = let lt = stands_lt h in omega arith;
    starts = tail_of _ i _ _ (s.starts ∙ p.starts);
    tags = tail_of _ i _ _ (s.tags ∙ p.tags);
    tagged = p.tagged;
  }

  pub stands_tag : c.at < length m → get_or (tags_of v m) i 0 ≡ c.tag
  stands_tag h =
      let p = passes_by v m c h (segment_at v c.at m) refl in
      head_of _ i _ 0 _ (s.tags ∙ p.tags) ∙ sym s.tagged.tag

  -- no segment is left
  pub stands_ge : length m ≤ c.at → length (tags_of v m) ≤ i
  stands_ge h = none_of (tags_of v m) i (ap length (s.tags ∙ tags_past v m c.at h))

  pub stands_none : length m ≤ c.at → c.tag ≡ 0
  stands_none h = s.tagged.tag ∙ tag_past v m c.at h

  -- where the segment begins, or the end
  pub stands_at : c.at ≡ get_or (starts_of v m) i (length m)
  stands_at = go (dec_lt c.at (length m))
    where
      go : Dec (c.at < length m) → c.at ≡ get_or (starts_of v m) i (length m)
      go (yes h) =
          let p = passes_by v m c h (segment_at v c.at m) refl in
          sym (head_of _ i _ (length m) _ (s.starts ∙ p.starts))
      go (no n) =
          let h : length m ≤ c.at = omega arith in
          let e : c.at ≡ length m = omega (arith, s.within) in
          e ∙ sym (get_or-eq_default (starts_of v m) (length m) (none_of (starts_of v m) i (ap length (s.starts ∙ starts_past v m c.at h))))
