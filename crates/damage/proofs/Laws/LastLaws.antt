-- The last segment of segments one after the other, and of a text further on. Assumes nothing.
use Rattle.std.specs.Prelude.{ℕ, ◌≡◌, refl, List, [], ◌∷◌, ◌++◌, map, Bool, true, false, length, T}
use Rattle.std.proofs.Common.{sym, ◌∙◌, ap, subst}
use Rattle.service.specs.declared.Service.{Service}
use Rattle.service.specs.Tests.{last_of}
use Rattle.segments.specs.declared.Piece.{Piece}
use Rattle.segments.specs.declared.Piece.TheVariants.{Finished as finished, Unfinished as unfinished}
use Rattle.segments.specs.Sync.{shift}
use Rattle.values.specs.Text.{says}
use Rattle.interchange.specs.Envelope.{is_unz, last_unz}
use Rattle.interchange.specs.Laws.NearLaws.{last_append}
use Rattle.damage.proofs.Laws.DamageLaws.{tag_moved}

unz_moved : (v : Service) (x r : List ℕ) (p : Piece) → is_unz v (x ++ r) (shift (length x) p) ≡ is_unz v r p
unz_moved v x r (finished a t) = ap (λ (g : List ℕ). says g "UNZ") (tag_moved v x r a)
unz_moved v x r (unfinished a e) = refl

pub last_moved : (v : Service) (x r : List ℕ) (b : Bool) (l : List Piece) → last_unz v (x ++ r) b (map (shift (length x)) l) ≡ last_unz v r b l
unfolding last_of
last_moved v x r b [] = refl
last_moved v x r b (p ∷ l) = ap (λ (c : Bool). last_unz v (x ++ r) c (map (shift (length x)) l)) (unz_moved v x r p) ∙ last_moved v x r (is_unz v r p) l

-- where the segments w of a text by itself end in the UNZ, so do any others and these
pub last_behind : (v : Service) (x r : List ℕ) (b : Bool) (l w : List Piece) → last_unz v r false w ≡ true → last_unz v (x ++ r) b (l ++ map (shift (length x)) w) ≡ true
unfolding last_of
last_behind v x r b l [] h = absurd (subst T (sym h) tt)
last_behind v x r b l (p ∷ w) h = last_append v (x ++ r) b l (shift (length x) p) (map (shift (length x)) w) ∙ last_moved v x r false (p ∷ w) ∙ h
