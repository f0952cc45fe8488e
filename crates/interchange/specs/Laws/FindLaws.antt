-- One turn of the loops that find a message. Each premise is a fact that a loop's proof has at hand. Assumes nothing.
use Rattle.std.specs.Prelude.{ℕ, ◌+◌, ◌≤◌, ◌<◌, ◌^◌, ◌≡◌, refl, List, [], ◌∷◌, Bool, true, false, length, drop, Option, Some, None, Err}
use Rattle.std.proofs.Common.{arith, ◌∙◌, ap, lt-ltb, ◌⊎◌, inl, inr}
use Rattle.std.proofs.Math.Path.{sym}
use Rattle.numbers.specs.declared.Number.TheVariants as numbers
use Rattle.service.specs.declared.Service.{Service}
use Rattle.segments.specs.Forms.Bytes.{past_breaks}
use Rattle.segments.specs.declared.Piece.{Piece}
use Rattle.segments.specs.declared.Piece.TheVariants.{Finished as finished, Unfinished as unfinished}
use Rattle.segments.specs.declared.Segments.{Segments}
use Rattle.segments.specs.declared.Text.{Text}
use Rattle.segments.specs.Left.{segments_left, Steps}
use Rattle.segments.specs.SegmentList.{start_of, segments_from, all_finished}
use Rattle.segments.specs.Laws.ListLaws.{segments_after_lem}
use Rattle.interchange.specs.Answers.{Refusal}
use Rattle.interchange.specs.Answers.{Found, refusal}
use Rattle.interchange.specs.Finds as found
use Rattle.interchange.specs.Messages.{kind_of, past_of, Extent, closed, unclosed, starts_at, ends_at, extent_by, extent_of, messages_by, messages_of, cut_before, found_one, found_by, found_in, found_from}
use Rattle.interchange.specs.declared.Kind.{Kind}
use Rattle.interchange.specs.declared.Kind.TheVariants.{Head as head, Trailer as trailer, Last as last, Other as other, Cut as cut}
use Rattle.interchange.specs.Forms.Found.{end_found}
use Rattle.interchange.specs.Laws.KindLaws.{never_cut}
use Rattle.interchange.specs.Laws.StepLaws.{Follows, passed, cut_off, kept, after_it, kind_is}

-- what is found is the message: no unfinished segment begins before it ends
whole : (m : Extent) (a e : ℕ) → starts_at m ≡ a → ends_at m ≡ e → (l : List Piece) → cut_before e l ≡ false → found.Message a e ≡ found_one m l
whole m a e p q l h = rw (p, q, h) refl

starts_by : (k : Kind) (p : Piece) (a : ℕ) (on : Extent) → starts_at on ≡ a → starts_at (extent_by k p a on) ≡ a
starts_by head p a on h = refl
starts_by trailer p a on h = refl
starts_by last p a on h = refl
starts_by other p a on h = h
starts_by cut p a on h = h

pub extent_starts : (v : Service) (s : List ℕ) (a : ℕ) (l : List Piece) → starts_at (extent_of v s a l) ≡ a
unfolding extent_of
extent_starts v s a [] = refl
extent_starts v s a (p ∷ l) = starts_by (kind_of v s p l) p a _ (extent_starts v s a l)

none_by : (k : Kind) (m : Extent) (on : List Extent) → (k ≡ head → ⊥) → messages_by k m on ≡ on
none_by head m on h = absurd (h refl)
none_by trailer m on h = refl
none_by last m on h = refl
none_by other m on h = refl
none_by cut m on h = refl

pub found_start : (v : Service) (s : List ℕ) (at p : ℕ) → p ≡ past_breaks at (drop at s) → found_from v s at ≡ found_in v s (segments_from v s p)
found_start v s at p e = ap (found_in v s) (segments_after_lem v s at p e)

pub skip_cut : (p q : List Extent) (a t : ℕ) (l : List Piece) → p ≡ q → found_by p (finished a t ∷ l) ≡ found_by q l
unfolding cut_before all_finished
skip_cut [] q a t l h = rw (← h) refl
skip_cut (m ∷ p) q a t l h = rw (← h) refl

-- ---- a segment and those that follow it
module _ (v : Service) (s : List ℕ) where
  module _ (p : Piece) (l : List Piece) (f : Follows s p l) where
    pub past_within : (kind_of v s p l ≡ cut → ⊥) → past_of p ≤ length s
    past_within n = go p l f n
      where
        go : (p : Piece) (l : List Piece) → Follows s p l → (kind_of v s p l ≡ cut → ⊥) → past_of p ≤ length s
        go _ _ (passed a t l i h w) n = omega arith
        go _ _ (cut_off a e h) n = absurd (n refl)

    told : (kind_of v s p l ≡ cut → ⊥) → (m : Extent) (a e : ℕ) → starts_at m ≡ a → ends_at m ≡ e → (e ≤ start_of p) ⊎ (e ≡ past_of p) → found.Message a e ≡ found_one m (p ∷ l)
    unfolding cut_before
    told n m a e i j o = whole m a e i j (p ∷ l) (go p l f n o)
      where
        go : (p : Piece) (l : List Piece) → Follows s p l → (kind_of v s p l ≡ cut → ⊥) → (e ≤ start_of p) ⊎ (e ≡ past_of p) → cut_before e (p ∷ l) ≡ false
        go _ _ (passed b t l i h w) n (inl o) = w e (omega arith)
        go _ _ (passed b t l i h w) n (inr o) = w e (omega arith)
        go _ _ (cut_off b u h) n o = absurd (n refl)

  cut_ends : (a : ℕ) {p : Piece} {l : List Piece} → Follows s p l → kind_of v s p l ≡ cut → found.Unfinished ≡ end_found v s a (p ∷ l)
  unfolding end_found extent_of cut_before
  cut_ends a (passed b t l i h w) e = absurd (never_cut _ _ e)
  cut_ends a (cut_off b u h) e = simp (lt-ltb b (length s) h)

  on_ends : (a : ℕ) {p : Piece} {l : List Piece} → Follows s p l → kind_of v s p l ≡ other → end_found v s a (p ∷ l) ≡ end_found v s a l
  unfolding end_found extent_of cut_before
  on_ends a (passed b t l i h w) e = ap (λ (k : Kind). found_one (extent_by k (finished b t) a (extent_of v s a l)) (finished b t ∷ l)) e
  on_ends a (cut_off b u h) e = absurd (let z : ◌≡◌ {A = ℕ} 0 1 = cc in omega arith)

  head_found : {p : Piece} {l : List Piece} → Follows s p l → kind_of v s p l ≡ head → end_found v s (start_of p) l ≡ found_in v s (p ∷ l)
  unfolding end_found found_in messages_of cut_before
  head_found (passed b t l i h w) e = rw e refl
  head_found (cut_off b u h) e = absurd (let z : ◌≡◌ {A = ℕ} 0 1 = cc in omega arith)

  cut_found : {p : Piece} {l : List Piece} → Follows s p l → kind_of v s p l ≡ cut → found.Unfinished ≡ found_in v s (p ∷ l)
  unfolding found_in messages_of all_finished
  cut_found (passed b t l i h w) e = absurd (never_cut _ _ e)
  cut_found (cut_off b u h) e = refl

  on_found : {p : Piece} {l : List Piece} → Follows s p l → (kind_of v s p l ≡ head → ⊥) → (kind_of v s p l ≡ cut → ⊥) → found_in v s (p ∷ l) ≡ found_in v s l
  unfolding found_in messages_of
  on_found (passed b t l i h w) n c = skip_cut _ (messages_of v s l) b t l (none_by _ (extent_of v s b l) (messages_of v s l) n)
  on_found (cut_off b u h) n c = absurd (c refl)

-- ---- the end of a message that begins at a
pub record Ending (x : Found) (t : Text) (a : ℕ) (r : Segments) : Type 0 where
  pub told : x ≡ end_found t.service t.bytes.now a (segments_left r)
  pub text : r.text ≡ t

pub ending_start : (a : ℕ) (r : Segments) → Ending (end_found r.text.service r.text.bytes.now a (segments_left r)) r.text a r
ending_start a r = record { told = refl; text = refl }

module _ (x : Found) (t : Text) (a : ℕ) (r q : Segments) (inv : Ending x t a r) where
  pub end_nothing : Steps r None q → found.Message a (length t.bytes.now) ≡ x
  unfolding end_found extent_of cut_before
  end_nothing w = sym (inv.told ∙ ap (end_found t.service t.bytes.now a) w.yields.0)

  module _ (p : Piece) (w : Steps r (Some p) q) (k : Kind) (c : k ≡ kind_of q.text.service q.text.bytes.now p (segments_left q)) where
    is_kind : kind_of t.service t.bytes.now p (segments_left q) ≡ k
    is_kind = kind_is t r q inv.text p w k c

    next : Follows t.bytes.now p (segments_left q)
    next = after_it t r q inv.text p w

    by_list : x ≡ end_found t.service t.bytes.now a (p ∷ segments_left q)
    by_list = inv.told ∙ ap (end_found t.service t.bytes.now a) w.yields

    by_kind : (j : Kind) → k ≡ j → x ≡ found_one (extent_by j p a (extent_of t.service t.bytes.now a (segments_left q))) (p ∷ segments_left q)
    unfolding end_found extent_of
    by_kind j e = by_list ∙ ap (λ (i : Kind). found_one (extent_by i p a (extent_of t.service t.bytes.now a (segments_left q))) (p ∷ segments_left q)) (is_kind ∙ e)

    whole_kind : (j : Kind) → k ≡ j → (j ≡ cut → ⊥) → kind_of t.service t.bytes.now p (segments_left q) ≡ cut → ⊥
    whole_kind j e n h = n (sym e ∙ sym is_kind ∙ h)

    pub end_fits : k ≡ trailer → length t.bytes.now < 2 ^ 64 → past_of p ≤ 18446744073709551615
    end_fits e h = let o = past_within t.service t.bytes.now p (segments_left q) next (whole_kind trailer e (λ y. let z : ◌≡◌ {A = ℕ} 0 1 = cc in omega arith)) in omega arith

    pub end_trailer : k ≡ trailer → (e : ℕ) → e ≡ past_of p → found.Message a e ≡ x
    end_trailer o e h =
        told t.service t.bytes.now p (segments_left q) next (whole_kind trailer o (λ y. let z : ◌≡◌ {A = ℕ} 0 1 = cc in omega arith)) (closed a (past_of p)) a e refl (sym h) (inr h)
        ∙ sym (by_kind trailer o)

    pub end_head : k ≡ head → (e : ℕ) → e ≡ start_of p → found.Message a e ≡ x
    end_head o e h =
        told t.service t.bytes.now p (segments_left q) next (whole_kind head o (λ y. let z : ◌≡◌ {A = ℕ} 0 1 = cc in omega arith)) (unclosed a (start_of p)) a e refl (sym h) (inl (omega arith))
        ∙ sym (by_kind head o)

    pub end_last : k ≡ last → (e : ℕ) → e ≡ start_of p → found.Message a e ≡ x
    end_last o e h =
        told t.service t.bytes.now p (segments_left q) next (whole_kind last o (λ y. let z : ◌≡◌ {A = ℕ} 0 1 = cc in omega arith)) (unclosed a (start_of p)) a e refl (sym h) (inl (omega arith))
        ∙ sym (by_kind last o)

    pub end_cut : k ≡ cut → (f : Refusal) → f ≡ refusal numbers.End → Err f ≡ x
    end_cut e f h = ap Err h ∙ cut_ends t.service t.bytes.now a next (is_kind ∙ e) ∙ sym by_list

    pub end_on : k ≡ other → Ending x t a q
    end_on e = record { told = by_list ∙ on_ends t.service t.bytes.now a next (is_kind ∙ e); text = kept t r q inv.text p w }

-- ---- looking for a UNH
pub record Finding (x : Found) (t : Text) (r : Segments) : Type 0 where
  pub told : x ≡ found_in t.service t.bytes.now (segments_left r)
  pub text : r.text ≡ t

pub finding_start : (t : Text) (at p : ℕ) → p ≡ past_breaks at (drop at t.bytes.now) → (r : Segments) → segments_left r ≡ segments_from t.service t.bytes.now p → r.text ≡ t → Finding (found_from t.service t.bytes.now at) t r
finding_start t at p e r h g = record { told = found_start t.service t.bytes.now at p e ∙ ap (found_in t.service t.bytes.now) (sym h); text = g }

module _ (x : Found) (t : Text) (r q : Segments) (inv : Finding x t r) where
  pub find_nothing : Steps r None q → found.Nothing ≡ x
  unfolding found_in messages_of all_finished
  find_nothing w = sym (inv.told ∙ ap (found_in t.service t.bytes.now) w.yields.0)

  module _ (p : Piece) (w : Steps r (Some p) q) (k : Kind) (c : k ≡ kind_of q.text.service q.text.bytes.now p (segments_left q)) where
    kind_here : kind_of t.service t.bytes.now p (segments_left q) ≡ k
    kind_here = kind_is t r q inv.text p w k c

    next_here : Follows t.bytes.now p (segments_left q)
    next_here = after_it t r q inv.text p w

    list_here : x ≡ found_in t.service t.bytes.now (p ∷ segments_left q)
    list_here = inv.told ∙ ap (found_in t.service t.bytes.now) w.yields

    pub find_head : k ≡ head → (a : ℕ) → a ≡ start_of p → (y : Found) → y ≡ end_found q.text.service q.text.bytes.now a (segments_left q) → y ≡ x
    find_head e a h y g =
        g
        ∙ ap (λ (u : Text). end_found u.service u.bytes.now a (segments_left q)) (kept t r q inv.text p w)
        ∙ ap (λ (i : ℕ). end_found t.service t.bytes.now i (segments_left q)) h
        ∙ head_found t.service t.bytes.now next_here (kind_here ∙ e)
        ∙ sym list_here

    pub find_cut : k ≡ cut → (f : Refusal) → f ≡ refusal numbers.End → Err f ≡ x
    find_cut e f h = ap Err h ∙ cut_found t.service t.bytes.now next_here (kind_here ∙ e) ∙ sym list_here

    pub find_on : (k ≡ head → ⊥) → (k ≡ cut → ⊥) → Finding x t q
    find_on n o = record {
      told = list_here ∙ on_found t.service t.bytes.now next_here (λ h. n (sym kind_here ∙ h)) (λ h. o (sym kind_here ∙ h));
      text = kept t r q inv.text p w;
    }
