-- An interchange opens as it did, if its bytes up to the end of the UNB are the same and its last segment is the UNZ. Assumes nothing.
use Rattle.std.specs.Prelude.{ℕ, ◌+◌, ◌≤◌, ◌<◌, ◌≡◌, refl, ◌⊎◌, Bool, true, ◌&&◌, take, drop, Ok}
use native.Mathlib.Omega.{arith}
use Rattle.std.proofs.Common.{sym, ◌∙◌, subst, inl, inr, take-append-drop, length-take-le}
use Rattle.std.proofs.Math.Path.{ap}
use Rattle.std.proofs.Math.Logic.{⊎_elim}
use mathlib.Core.List.{List, [], ◌∷◌, ◌++◌}
use Rattle.std.proofs.Math.Bool.{false}
use Rattle.std.proofs.Math.ListN.{length, length-drop}
use Rattle.std.proofs.lemmas.List.{drop-append-le}
use Rattle.service.specs.declared.Service.{Service}
use Rattle.service.specs.Service.{Fit}
use Rattle.service.specs.Service.{characters_of}
use Rattle.service.specs.Laws.FitLaws.{characters_fit}
use Rattle.service.specs.Laws.UnaLaws.{characters_alike}
use Rattle.std.specs.Prelude.{Some}
use Rattle.numbers.specs.declared.Number.TheVariants as numbers
use Rattle.segments.specs.declared.Segment.TheVariants.{Finished}
use Rattle.segments.specs.Forms.Bytes.{end_from, past_breaks}
use Rattle.segments.specs.declared.Piece.{Piece}
use Rattle.segments.specs.declared.Piece.TheVariants.{Finished as finished}
use Rattle.segments.specs.SegmentList.{segments_from, segments_after}
use Rattle.segments.specs.Laws.SyncLaws.{skipped, rest_at}
use Rattle.segments.specs.Laws.PartLaws.{end_more, end_fewer}
use Rattle.segments.specs.Laws.WholeLaws.{breaks_alike}
use Rattle.segments.specs.Laws.ResyncLaws.{gap_start}
use Rattle.parts.specs.Parts.{Tok, lex, value_of, elements, value_at}
use Rattle.parts.proofs.Laws.PartLaws.{lex_part, value_short}
use Rattle.values.specs.Numbers.{value_from}
use Rattle.values.specs.Text.{text, says}
use Rattle.interchange.specs.Answers.{Opens, Refused}
use Rattle.interchange.specs.Messages.{tag_at}
use Rattle.interchange.specs.Envelope.{is_reference, is_header, last_unz, ended, first_at, refusal, after_first, body_of}
use Rattle.interchange.specs.Forms.Answers.{opening_of}
use Rattle.interchange.specs.Laws.OpenedLaws.{opened, opens}
use Rattle.interchange.specs.Laws.OpenLaws.{headed_at_lem, header_found, open_endless, read_fit, open_read}
use Rattle.interchange.specs.Laws.WalkTheorems.{header}
use Rattle.interchange.specs.Laws.EndedLaws.{body_ended}
use Rattle.damage.proofs.Laws.BeforeLaws.{end_is}

-- ---- the first segment, where the text x holds it
module _ (v : Service) (x y : List ℕ) (i t : ℕ) (h : i ≤ length x) (g : t < length x) where
  end_part : end_from v false i (drop i (x ++ y)) ≡ Some t → end_from v false i (drop i x) ≡ Some t
  end_part e =
      let n = length-drop i x in
      let k : t < i + length (drop i x) = omega arith in
      end_fewer v false i (drop i x) y t (ap (end_from v false i) (sym (drop-append-le i x y h)) ∙ e) k

  end_whole : end_from v false i (drop i x) ≡ Some t → end_from v false i (drop i (x ++ y)) ≡ Some t
  end_whole e = ap (end_from v false i) (drop-append-le i x y h) ∙ end_more v false i (drop i x) y t e

  header_longer : end_from v false i (drop i x) ≡ Some t → is_header v (x ++ y) i ≡ is_header v x i
  unfolding is_header tag_at
  header_longer e =
      ap
      (λ (k : List Tok). says (value_of k) "UNB" && (says (value_at (elements k) 1 1) "3" && is_reference (length (value_at (elements k) 5 0))))
      (ap (lex v false) (drop-append-le i x y h) ∙ lex_part v false i (drop i x) y t e)

-- what follows a segment
after_end : (v : Service) (s : List ℕ) (i t : ℕ) → end_from v false i (drop i s) ≡ Some t → segments_from v s i ≡ finished i t ∷ segments_after v s (t + 1)
after_end v s i t e = (rest_at v s i (Some t) (sym e) t refl).same ∙ ap (λ (l : List Piece). finished i t ∷ l) (gap_start v 0 (t + 1) (t + 1) (drop (t + 1) s))

module _ (s : List ℕ) (v : Service) (first : ℕ) (o : opening_of s ≡ Opens v first) where
  -- the UNB ends here
  unb_end : end_from v false first (drop first s) ≡ Some (header s v first o).term
  unb_end = let h = header s v first o in end_is v s [] first (Finished h.term h.next) h.at h.term h.next refl

  pub body_after : body_of v s first ≡ segments_after v s ((header s v first o).term + 1)
  body_after = ap after_first (after_end v s first (header s v first o).term unb_end)

  -- its tag has three bytes
  unb_long : first + 3 ≤ (header s v first o).term
  unfolding tag_at text
  unb_long =
      let h = header s v first o in
      let n : length (value_from v first s) ≡ 3 = ap length h.tag in
      let g = value_short v false first (drop first s) h.term unb_end in
      omega arith

  pub unb_within : (header s v first o).term + 1 ≤ length s
  unb_within = let h = rest_at v s first (Some (header s v first o).term) (sym unb_end) (header s v first o).term refl in let g = h.high in omega arith

  una_low : (opened s v first o).una ≤ first
  unfolding first_at
  una_low =
      let f = opened s v first o in
      ⊎_elim (λ (e : f.una ≡ 0). omega arith)
      (λ (e : f.una ≡ 9). let b : past_breaks 9 (drop 9 s) ≡ first = ap (first_at s) (sym e) ∙ f.begins in let l = (skipped v 9 (drop 9 s)).low in omega arith)
      (characters_fit s v f.una f.named).1

  -- any text that is s up to the end of the UNB
  module _ (y : List ℕ) where
    abbrev q : ℕ
    q = (header s v first o).term + 1

    length_front : length (take q s) ≡ q
    length_front = length-take-le q s unb_within

    term_low : (header s v first o).term < length (take q s)
    term_low = let z = length_front in omega arith

    first_low : first ≤ length (take q s)
    first_low = let x = unb_long in let z = length_front in omega arith

    front_end : end_from v false first (drop first (take q s)) ≡ Some (header s v first o).term
    front_end =
        end_part v (take q s) (drop q s) first (header s v first o).term first_low term_low
        (ap (λ (x : List ℕ). end_from v false first (drop first x)) (take-append-drop q s) ∙ unb_end)

    new_end : end_from v false first (drop first (take q s ++ y)) ≡ Some (header s v first o).term
    new_end = end_whole v (take q s) y first (header s v first o).term first_low term_low front_end

    body_new : body_of v (take q s ++ y) first ≡ segments_after v (take q s ++ y) q
    body_new = ap after_first (after_end v (take q s ++ y) first (header s v first o).term new_end)

    header_new : is_header v (take q s ++ y) first ≡ true
    header_new =
        header_longer v (take q s) y first (header s v first o).term first_low term_low front_end
        ∙ sym (header_longer v (take q s) (drop q s) first (header s v first o).term first_low term_low front_end)
        ∙ ap (λ (x : List ℕ). is_header v x first) (take-append-drop q s)
        ∙ sym (headed_at_lem v s first)
        ∙ (opened s v first o).heads

    -- the first bytes
    named_new : characters_of (take q s ++ y) ≡ Fit v (opened s v first o).una
    named_new =
        let x = una_low in
        let z = unb_long in
        let l = length_front in
        let g : 3 ≤ length (take q s) = omega arith in
        let h : (opened s v first o).una ≤ length (take q s) = omega arith in
        characters_alike (take q s) (drop q s) y v (opened s v first o).una (ap characters_of (take-append-drop q s) ∙ (opened s v first o).named) g h

    first_new : first_at (take q s ++ y) (opened s v first o).una ≡ first
    unfolding first_at
    first_new =
        let i = opened s v first o in
        ⊎_elim
        (λ (n : i.una ≡ 0). ap (first_at (take q s ++ y)) n ∙ ap (first_at s) (sym n) ∙ i.begins)
        (λ (n : i.una ≡ 9).
        let x = una_low in
        let z = unb_long in
        let l = length_front in
        let g : 9 ≤ length (take q s) = omega arith in
        let d = length-drop 9 (take q s) in
        let k : first < 9 + length (drop 9 (take q s)) = omega arith in
        let b : past_breaks 9 (drop 9 s) ≡ first = ap (first_at s) (sym n) ∙ i.begins in
        ap (first_at (take q s ++ y)) n
        ∙ ap (past_breaks 9) (drop-append-le 9 (take q s) y g)
        ∙ breaks_alike v 9 (drop 9 (take q s)) (drop q s) y first
        (ap (past_breaks 9) (sym (drop-append-le 9 (take q s) (drop q s) g) ∙ ap (drop 9) (take-append-drop q s)) ∙ b) k)
        (characters_fit s v i.una i.named).1

    opens_new : length (take q s ++ y) ≤ 1048576 → last_unz v (take q s ++ y) false (segments_after v (take q s ++ y) q) ≡ true → opening_of (take q s ++ y) ≡ Opens v first
    opens_new h u =
        opens (take q s ++ y) v first
        (record {
          una = (opened s v first o).una;
          short = h;
          named = named_new;
          begins = first_new;
          heads = headed_at_lem v (take q s ++ y) first ∙ header_new;
          closes = body_ended v (take q s ++ y) first header_new ∙ ap (ended v (take q s ++ y)) body_new ∙ u;
        })

    -- where they do not end in the UNZ
    endless_new : length (take q s ++ y) ≤ 1048576 → last_unz v (take q s ++ y) false (segments_after v (take q s ++ y) q) ≡ false → opening_of (take q s ++ y) ≡ Refused (refusal numbers.End)
    endless_new h u =
        let r : List ℕ = take q s ++ y in
        let una : ℕ = (opened s v first o).una in
        let c : is_header v r first ≡ true = header_new in
        let d : ended v r (segments_from v r first) ≡ false = body_ended v r first header_new ∙ ap (ended v r) body_new ∙ u in
        sym (open_read r (Ok (record { service = v; una = una })) (read_fit r h (characters_of r) refl (record { service = v; una = una }) named_new) (record { service = v; una = una }) refl (Refused (refusal numbers.End)) (open_endless v r (first_at r una) (Ok first) (header_found v r una first (sym first_new) true (sym c) refl) first refl (ended v r (segments_from v r first)) refl d (refusal numbers.End) refl))

  -- the segments after the UNB end in the UNZ
  pub unz_ends : last_unz v s false (segments_after v s ((header s v first o).term + 1)) ≡ true
  unz_ends =
      ap (ended v s) (sym body_after)
      ∙ sym (body_ended v s first (sym (headed_at_lem v s first) ∙ (opened s v first o).heads))
      ∙ (opened s v first o).closes

  module _ (s' : List ℕ) (g : take ((header s v first o).term + 1) s' ≡ take ((header s v first o).term + 1) s) where
    again : take ((header s v first o).term + 1) s ++ drop ((header s v first o).term + 1) s' ≡ s'
    again = ap (λ (x : List ℕ). x ++ drop ((header s v first o).term + 1) s') (sym g) ∙ take-append-drop ((header s v first o).term + 1) s'

    pub new_body : body_of v s' first ≡ segments_after v s' ((header s v first o).term + 1)
    new_body = subst (λ (x : List ℕ). body_of v x first ≡ segments_after v x ((header s v first o).term + 1)) again (body_new (drop ((header s v first o).term + 1) s'))

    pub reopens : length s' ≤ 1048576 → last_unz v s' false (segments_after v s' ((header s v first o).term + 1)) ≡ true → opening_of s' ≡ Opens v first
    reopens = subst (λ (x : List ℕ). length x ≤ 1048576 → last_unz v x false (segments_after v x ((header s v first o).term + 1)) ≡ true → opening_of x ≡ Opens v first) again (opens_new (drop ((header s v first o).term + 1) s'))

    endless : length s' ≤ 1048576 → last_unz v s' false (segments_after v s' ((header s v first o).term + 1)) ≡ false → opening_of s' ≡ Refused (refusal numbers.End)
    endless = subst (λ (x : List ℕ). length x ≤ 1048576 → last_unz v x false (segments_after v x ((header s v first o).term + 1)) ≡ false → opening_of x ≡ Refused (refusal numbers.End)) again (endless_new (drop ((header s v first o).term + 1) s'))

    -- nothing but 4 can be told
    pub opens_or_4 : length s' ≤ 1048576 → (opening_of s' ≡ Opens v first) ⊎ (opening_of s' ≡ Refused (refusal numbers.End))
    opens_or_4 h = go (last_unz v s' false (segments_after v s' ((header s v first o).term + 1))) refl
      where
        go : (b : Bool) → last_unz v s' false (segments_after v s' ((header s v first o).term + 1)) ≡ b → (opening_of s' ≡ Opens v first) ⊎ (opening_of s' ≡ Refused (refusal numbers.End))
        go true e = inl (reopens h e)
        go false e = inr (endless h e)
