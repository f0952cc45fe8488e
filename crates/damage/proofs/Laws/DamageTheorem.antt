-- Damage to messages of an interchange hides no other. Assumes nothing.
use Rattle.std.specs.Prelude.{ℕ, ◌+◌, ◌≤◌, ◌≡◌, refl, ◌⊎◌, List, ◌∷◌, ◌++◌, true, false, length, take, drop}
use Rattle.std.proofs.Common.{arith, sym, ◌∙◌, ap, subst, length-take-le, take-take}
use Rattle.std.proofs.lemmas.List.{take-append-le}
use Rattle.numbers.specs.declared.Number.TheVariants as numbers
use Rattle.service.specs.declared.Service.{Service}
use Rattle.service.specs.Service.{Fits}
use Rattle.service.specs.Laws.FitLaws.{characters_fit}
use Rattle.segments.specs.declared.Piece.{Piece}
use Rattle.segments.specs.SegmentList.{segments_after}
use Rattle.interchange.specs.Answers.{Opens, Refused}
use Rattle.interchange.specs.Messages.{Extent, closed, messages_of}
use Rattle.interchange.specs.Envelope.{refusal, body_of}
use Rattle.interchange.specs.Forms.Answers.{opening_of}
use Rattle.interchange.specs.Laws.OpenedLaws.{opened}
use Rattle.interchange.specs.Laws.WalkTheorems.{header}
use Rattle.damage.specs.Damage.{Before, Stretch, Mark, replaced, damaged, Within, Hits, Beside, Stays}
use Rattle.damage.proofs.Laws.PlaceLaws.{lies, lies_long, precedes}
use Rattle.damage.proofs.Laws.HitsTheorem.{found_all}
use Rattle.damage.proofs.Laws.ReopenTheorem.{body_after, unb_within, unz_ends, new_body, reopens, opens_or_4}

-- Take an interchange that opens and damage messages in it as `Hits` says, the whole staying within the limit. The result opens, and every whole message is found as before.
pub damage : (s : List ℕ) (v : Service) (first : ℕ) → opening_of s ≡ Opens v first → (k : List Mark) → Hits v s true false (messages_of v s (body_of v s first)) k
    → length (damaged s k) ≤ 1048576
    → (opening_of (damaged s k) ≡ Opens v first) × Beside (Stays s (damaged s k)) 0 0 k (messages_of v s (body_of v s first)) (messages_of v (damaged s k) (body_of v (damaged s k) first))
damage s v first o k w h =
    let i = opened s v first o in
    let f : Fits v = (characters_fit s v i.una i.named).0 in
    let q : ℕ = (header s v first o).term + 1 in
    let r : List ℕ = damaged s k in
    let b = body_after s v first o in
    let u : Hits v s true false (messages_of v s (segments_after v s q)) k = subst (λ (l : List Piece). Hits v s true false (messages_of v s l) k) b w in
    let g = found_all v f s (messages_of v s (segments_after v s q)) k u q (unb_within s v first o) refl in
    let l : messages_of v r (body_of v r first) ≡ g.found = ap (messages_of v r) (new_body s v first o r g.front) ∙ g.messages in (
      reopens s v first o r g.front h (g.unz (unz_ends s v first o)),
      subst (λ (x : List Extent). Beside (Stays s r) 0 0 k x (messages_of v r (body_of v r first))) (ap (messages_of v s) (sym b)) (subst (Beside (Stays s r) 0 0 k (messages_of v s (segments_after v s q))) (sym l) g.beside),
    )

-- every closed message has a segment before its UNT
pub before_unt : (s : List ℕ) (v : Service) (first : ℕ) → opening_of s ≡ Opens v first → (before : List Extent) (a e : ℕ) (after : List Extent)
    → messages_of v s (body_of v s first) ≡ before ++ (closed a e ∷ after) → (t z : ℕ) × (z + 1 ≡ e) × Before t z (segments_after v s a)
before_unt s v first o before a e after m =
    let q : ℕ = (header s v first o).term + 1 in
    precedes v s q before a e after (lies v s q (unb_within s v first o) before a e after (ap (messages_of v s) (sym (body_after s v first o)) ∙ m))

-- whatever stretch behind the UNB is replaced: the result opens, or it is refused by 4
pub opens_or_refused : (s : List ℕ) (v : Service) (first : ℕ) → opening_of s ≡ Opens v first → (before : List Extent) (a e : ℕ) (after : List Extent)
    → messages_of v s (body_of v s first) ≡ before ++ (closed a e ∷ after) → (z : ℕ) → z + 1 ≡ e → (c : Stretch) → Within a z c → length (replaced s c) ≤ 1048576
    → (opening_of (replaced s c) ≡ Opens v first) ⊎ (opening_of (replaced s c) ≡ Refused (refusal numbers.End))
opens_or_refused s v first o before a e after m z n c w h =
    let q : ℕ = (header s v first o).term + 1 in
    let y = lies v s q (unb_within s v first o) before a e after (ap (messages_of v s) (sym (body_after s v first o)) ∙ m) in
    let x1 = y.unh.clear.low in
    let x2 = lies_long v s q before a e after y in
    let w1 = w.low in
    let w2 = w.order in
    let w3 = w.high in
    let k : c.from ≤ length s = omega arith in
    let l = length-take-le c.from s k in
    let i : q ≤ length (take c.from s) = omega arith in
    let j : q ≤ c.from = omega arith in
    opens_or_4 s v first o (replaced s c) (take-append-le q (take c.from s) (c.new ++ drop c.upto s) i ∙ take-take q c.from s j) h
