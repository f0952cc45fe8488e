-- Walking an interchange from its first byte, with UNA or without. Assumes nothing.
use Rattle.std.specs.Prelude.{ℕ, ◌≡◌, refl, false, get_or, drop}
use Rattle.std.proofs.Common.{sym, ◌∙◌, subst}
use Rattle.std.proofs.Math.Path.{ap}
use Rattle.std.proofs.Math.Logic.{⊎_elim}
use mathlib.Core.List.{List, [], ◌∷◌}
use Rattle.service.specs.declared.Service.{Service}
use Rattle.service.specs.Service.{Fit}
use Rattle.service.specs.Service.{Fits, characters_of}
use Rattle.service.specs.Laws.FitLaws.{characters_fit}
use Rattle.service.specs.Laws.UnaLaws.{named, nine}
use Rattle.segments.specs.declared.Class.TheVariants.{Comp}
use Rattle.segments.specs.Classes.{class_of}
use Rattle.segments.specs.declared.Piece.{Piece}
use Rattle.segments.specs.declared.Piece.TheVariants.{Finished as finished}
use Rattle.segments.specs.SegmentList.{segments_from, segments_after}
use Rattle.segments.specs.Laws.ListLaws.{segments_after_lem}
use Rattle.segments.specs.Laws.UnaLaws.{plain_letter, comp_class, letter_u, letter_n, letter_a, una_segment}
use Rattle.parts.specs.Parts.{lex, value_of}
use Rattle.values.specs.Text.{text, same_list}
use Rattle.interchange.specs.Answers.{Opens}
use Rattle.interchange.specs.Messages.{tag_at, messages_of, found_in, found_from}
use Rattle.interchange.specs.Envelope.{first_at, body_of}
use Rattle.interchange.specs.Forms.Answers.{opening_of}
use Rattle.interchange.specs.Laws.OpenedLaws.{opened}
use Rattle.interchange.specs.Walk.{all_messages, Visits, Own}
use Rattle.interchange.specs.Laws.WalkLaws.{both, found_skip}
use Rattle.interchange.specs.Laws.WalkTheorems.{header, body_is, unb_other, owns}
use Rattle.interchange.specs.Laws.FirstLaws.{first_settled}

-- ---- UNA is read as a segment with the tag UNA
una_lex : (v : Service) → Fits v → (c : ℕ) (x : List ℕ) → c ≡ v.component → value_of (lex v false (85 ∷ 78 ∷ 65 ∷ c ∷ x)) ≡ 85 ∷ 78 ∷ 65 ∷ []
unfolding lex value_of
una_lex v f c x e =
    let k : class_of v c ≡ Comp = ap (class_of v) e ∙ comp_class v f in
    simp (plain_letter v f 85 letter_u, plain_letter v f 78 letter_n, plain_letter v f 65 letter_a, k)

pub una_tag : (s : List ℕ) (v : Service) → characters_of s ≡ Fit v 9 → tag_at v s 0 ≡ text "UNA"
unfolding tag_at text
una_tag s v q =
    let d = named s v q in
    ap (λ (l : List ℕ). value_of (lex v false l)) (nine s d.long ∙ rw (d.first, d.second, d.third) refl)
    ∙ (una_lex v (characters_fit s v 9 q).0 (get_or s 3 0) (get_or s 4 0 ∷ get_or s 5 0 ∷ get_or s 6 0 ∷ get_or s 7 0 ∷ get_or s 8 0 ∷ drop 9 s) d.names.component)

una_other : (v : Service) (s : List ℕ) (l : List Piece) → tag_at v s 0 ≡ text "UNA" → messages_of v s (finished 0 8 ∷ l) ≡ messages_of v s l
unfolding messages_of text same_list
una_other v s l e = rw e refl

module _ (s : List ℕ) (v : Service) (first : ℕ) (o : opening_of s ≡ Opens v first) where
  -- the messages read from the first byte are those read from the UNB, and the same is found
  record Alike : Type 0 where
    messages : all_messages v s ≡ messages_of v s (segments_from v s first)
    finds : found_from v s 0 ≡ found_in v s (segments_from v s first)

  alike : Alike
  unfolding first_at
  alike =
      let f = opened s v first o in
      let c = characters_fit s v f.una f.named in
      ⊎_elim
      (λ (e : f.una ≡ 0).
      let z : 0 ≡ first = ap (first_at s) (sym e) ∙ f.begins in
      let g : segments_after v s 0 ≡ segments_from v s first = ap (segments_after v s) z ∙ segments_after_lem v s first first (sym (first_settled s v first o)) in
      record { messages = ap (messages_of v s) g; finds = ap (found_in v s) g })
      (λ (e : f.una ≡ 9).
      let q : characters_of s ≡ Fit v 9 = f.named ∙ ap (Fit v) e in
      let g : segments_after v s 9 ≡ segments_from v s first = segments_after_lem v s 9 first (sym (ap (first_at s) (sym e) ∙ f.begins)) in
      let h : segments_after v s 0 ≡ finished 0 8 ∷ segments_from v s first = una_segment s v q ∙ ap (λ (l : List Piece). finished 0 8 ∷ l) g in
      let n = una_other v s (segments_from v s first) (una_tag s v q) in
      record { messages = ap (messages_of v s) h ∙ n; finds = ap (found_in v s) h ∙ found_skip v s 0 8 (segments_from v s first) n })
      c.1

  passed_unb : messages_of v s (segments_from v s first) ≡ messages_of v s (body_of v s first)
  passed_unb =
      let h = header s v first o in
      ap (messages_of v s) h.here
      ∙ unb_other v s first h.term (segments_from v s h.next) h.tag
      ∙ ap (messages_of v s) (body_is s v first o)

  -- walking from position 0 visits exactly the messages, in order, and ends
  pub walks_zero : Visits v s 0 (messages_of v s (body_of v s first))
  walks_zero =
      let h = header s v first o in
      subst (λ (l : List Piece). Visits v s 0 (messages_of v s l)) (body_is s v first o)
      ((both v s h.body).out 0
      (alike.finds
      ∙ ap (found_in v s) h.here
      ∙ found_skip v s first h.term (segments_from v s h.next) (unb_other v s first h.term (segments_from v s h.next) h.tag)))

  -- the messages of the whole text are those after the UNB
  pub all_body : all_messages v s ≡ messages_of v s (body_of v s first)
  all_body = alike.messages ∙ passed_unb

  -- each is found at its own first byte
  pub owns_all : Own v s (all_messages v s)
  owns_all = subst (Own v s) (sym all_body) (owns s v first o)
