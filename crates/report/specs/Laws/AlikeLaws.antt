-- Messages whose segments have the same values, trailing empties aside, are the same to every rule, offsets aside. Assumes nothing.
use Rattle.std.specs.Prelude.{ℕ, suc, ◌≤◌, ◌≡◌, length}
use Rattle.std.proofs.Math.Path.{refl, ap₂}
use Rattle.std.proofs.Common.{sym, ◌∙◌, ap, le-leb}
use mathlib.Core.List.{List, [], ◌∷◌, map}
use Rattle.service.specs.declared.Service.{Service}
use Rattle.service.specs.Service.{Fits}
use Rattle.service.specs.Laws.FitLaws.{fits_fitting}
use Rattle.segments.specs.declared.Piece.{Piece}
use Rattle.segments.specs.declared.Piece.TheVariants.{Finished as finished}
use Rattle.segments.specs.SegmentList.{start_of, segments_from, starts_from}
use Rattle.parts.specs.Trimmed.{values_at}
use Rattle.parts.proofs.Laws.ByteLaws.{same_strange}
use Rattle.values.specs.Forms.Values.{code_of}
use Rattle.interchange.specs.Messages.{ends_closed}
use Rattle.interchange.specs.Alike.{Alike, none, both}
use Rattle.interchange.specs.Laws.AlikeLaws.{same_value, same_first}
use Rattle.chart.specs.Tags.{tag_on, tags_from, tags_of}
use Rattle.message.specs.Segs.{Seg, seg_at, segs_from, segs_of}
use Rattle.report.specs.Reported.{Raw, raw_of, bare_of}

-- ---- lists of segments with the same values
module _ (v : Service) (m : List ℕ) (v' : Service) (m' : List ℕ) where
  tags_eq : {l l' : List Piece} → Alike v m v' m' l l' → map (tag_on v m) (map start_of l) ≡ map (tag_on v' m') (map start_of l')
  tags_eq none = refl
  tags_eq (both a t a' t' l l' q w) = ap₂ (λ (x : ℕ) (y : List ℕ). x ∷ y) (ap code_of (same_first v m v' m' a a' q)) (tags_eq w)

  seg_eq : (n r a a' : ℕ) → values_at v m a ≡ values_at v' m' a' → seg_at v m n r a ≡ seg_at v' m' n r a'
  seg_eq n r a a' q = λ i. record { nth = n; row = r; value = λ e c. same_value v m v' m' a a' q e c i }

  segs_eq : {l l' : List Piece} → Alike v m v' m' l l' → (n : ℕ) (rows : List ℕ) → segs_from v m n rows (map start_of l) ≡ segs_from v' m' n rows (map start_of l')
  unfolding segs_from
  segs_eq none n [] = refl
  segs_eq none n (r ∷ rows) = refl
  segs_eq (both a t a' t' l l' q w) n [] = refl
  segs_eq (both a t a' t' l l' q w) n (r ∷ rows) = ap₂ (λ (x : Seg) (y : List Seg). x ∷ y) (seg_eq n r a a' q) (segs_eq w (suc n) rows)

  raw_eq : (a t a' t' : ℕ) → values_at v m a ≡ values_at v' m' a' → raw_of v m (finished a t) ≡ raw_of v' m' (finished a' t')
  raw_eq a t a' t' q = λ i. record { usual = same_strange v m v' m' a a' q i; value = λ e c. same_value v m v' m' a a' q e c i }

  raws_eq : {l l' : List Piece} → Alike v m v' m' l l' → map (raw_of v m) l ≡ map (raw_of v' m') l'
  raws_eq none = refl
  raws_eq (both a t a' t' l l' q w) = ap₂ (λ (x : Raw) (y : List Raw). x ∷ y) (raw_eq a t a' t' q) (raws_eq w)

-- ---- two messages
module _ (v : Service) (m : List ℕ) (v' : Service) (m' : List ℕ) (w : Alike v m v' m' (segments_from v m 0) (segments_from v' m' 0)) where
  -- what 16 goes by
  pub same_tags : tags_of v m ≡ tags_of v' m'
  unfolding tags_from starts_from
  same_tags = tags_eq v m v' m' w

  -- what 17 to 29 go by
  pub same_segs : (rows : List ℕ) → segs_of v m rows ≡ segs_of v' m' rows
  unfolding starts_from
  same_segs rows = segs_eq v m v' m' w 1 rows

  -- what 1, 2 and 10 to 14 go by
  pub same_bare : Fits v → Fits v' → length m ≤ 1048576 → length m' ≤ 1048576 → ends_closed v m ≡ ends_closed v' m' → bare_of v m ≡ bare_of v' m'
  same_bare f f' h h' c = λ i. record {
    short = (le-leb (length m) 1048576 h ∙ sym (le-leb (length m') 1048576 h')) i;
    fit = (fits_fitting v f ∙ sym (fits_fitting v' f')) i;
    closed = c i;
    segments = raws_eq v m v' m' w i;
  }
