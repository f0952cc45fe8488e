-- The values of a message's own bytes, read by themselves, are those of its segments in the whole. Assumes nothing.
use Rattle.std.specs.Prelude.{ℕ, ◌+◌, ◌-◌, ◌≤◌, ◌≡◌, refl, List, ◌∷◌, map, length, take, drop}
use Rattle.std.proofs.Common.{sym, ◌∙◌, ap, ap₂}
use Rattle.service.specs.declared.Service.{Service}
use Rattle.segments.specs.declared.Piece.{Piece}
use Rattle.segments.specs.declared.Piece.TheVariants.{Finished as finished}
use Rattle.segments.specs.SegmentList.{segments_after}
use Rattle.segments.specs.Sync.{shift}
use Rattle.segments.specs.Laws.ClearLaws.{passed}
use Rattle.parts.specs.Parts.{Tok, elements}
use Rattle.parts.specs.Trimmed.{Values, trimmed, values_in, values_from}
use Rattle.interchange.specs.Messages.{ends_at, bytes_of, extent_of}
use Rattle.interchange.specs.Laws.FindLaws.{extent_starts}
use Rattle.interchange.specs.Laws.WalkLaws.{Placed}
use Rattle.interchange.specs.Laws.OwnLaws.{members, past_more, message_holds, Own, none, cut_off, also, own_list, own_tokens}

shift_values : (v : Service) (s q : List ℕ) (a : ℕ) {l : List Piece} → Own v s q a l → values_in v s (map (shift a) l) ≡ values_in v q l
unfolding values_in
shift_values v s q a none = refl
shift_values v s q a (cut_off c e) = refl
shift_values v s q a (also c t l k w) = ap₂ (λ (x : Values) (y : List Values). x ∷ y) (ap (λ (x : List Tok). trimmed (elements x)) k) (shift_values v s q a w)

-- a message that begins with the segment at a: the values of its own bytes are those of its segments
pub message_values : (v : Service) (s : List ℕ) (a t : ℕ) (l : List Piece) → a ≤ length s → segments_after v s a ≡ finished a t ∷ l → segments_after v s (t + 1) ≡ l → Placed v s l
    → values_from v (bytes_of s (extent_of v s a l)) 0 ≡ values_in v s (finished a t ∷ members v s l)
message_values v s a t l h g y w =
    let f = passed v s a a t l h g in
    let e : ℕ = ends_at (extent_of v s a l) in
    let o = past_more v s a a t l h g e (members v s l) (message_holds v s w a (t + 1) f.past.high y) in
    ap (λ (x : ℕ). values_from v (take (e - x) (drop x s)) 0) (extent_starts v s a l)
    ∙ sym (shift_values v s (take (e - a) (drop a s)) a (own_tokens v s a t l h g e (members v s l) o))
    ∙ ap (values_in v s) (own_list v s a t l h g e (members v s l) o)
