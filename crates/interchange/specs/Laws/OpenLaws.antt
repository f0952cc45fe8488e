-- What the tests of opening say of its definitions. Each premise is a fact that a proof has at hand. Assumes nothing.
use Rattle.std.specs.Prelude.{ℕ, ◌≤◌, ◌<◌, ◌≡◌, refl, List, Bool, true, false, length, drop, leb, ltb, Result, Ok, Err}
use Rattle.std.proofs.Math.Decide.{dec_lt}
use Rattle.std.proofs.Common.{arith, ◌∙◌, drop_of_length-le}
use Rattle.std.proofs.Math.Path.{sym, ap}
use Rattle.std.proofs.Math.Dec.{eqb}
use borrow.Author.Tests.{eq-eqb, ne_eqb, le-ltb, lt-ltb, le-leb, lt-leb}
use Rattle.service.specs.declared.Service.{Service}
use Rattle.service.specs.Tests.{if, last_of}
use Rattle.service.specs.declared.Characters.{Characters}
use Rattle.service.specs.Service.{Fit, Unfit}
use Rattle.service.specs.Service.{characters_of}
use Rattle.std.specs.Prelude.{Option}
use Rattle.std.specs.Prelude.{Some, None}
use Rattle.numbers.specs.declared.Number.TheVariants as numbers
use Rattle.segments.specs.declared.Segment.{Segment}
use Rattle.segments.specs.declared.Segment.TheVariants as segment
use Rattle.segments.specs.Forms.Bytes.{end_from, past_breaks}
use Rattle.segments.specs.Forms.Segments.{segment_by, segment_at}
use Rattle.segments.specs.Laws.SegmentsLaws.{segment_by_lem}
use Rattle.segments.specs.SegmentList.{segments_from}
use Rattle.segments.specs.Laws.SyncLaws.{rest_nothing}
use Rattle.segments.specs.Laws.ListLaws.{list_by, segments_at, list_nothing, list_finished, list_unfinished}
use Rattle.parts.specs.Parts.{lex, value_of}
use Rattle.values.specs.Text.{text, same_list}
use Rattle.values.specs.Numbers.{value_in}
use Rattle.values.specs.Forms.Values.{code_of}
use Rattle.interchange.specs.Answers.{Refusal}
use Rattle.interchange.specs.Answers.{Opening}
use Rattle.interchange.specs.Answers.{Opens, Refused}
use Rattle.interchange.specs.Messages.{tag_at}
use Rattle.values.specs.Forms.Codes.{THREE, UNB, UNZ}
use Rattle.interchange.specs.Laws.TagLaws.{unb_code, unz_code, three_code}
use Rattle.interchange.specs.Envelope.{is_reference, is_header, headed, last_unz, ended, first_at, refusal}
use Rattle.interchange.specs.Forms.Answers.{read_with, read_by, header_by, opened_by, opening_by, opening_of}

-- ---- the header
headed_by : (v : Service) (s : List ℕ) (i : ℕ) (k : Option ℕ) → headed v s (list_by (segment_by s k) i (length s) (segments_from v s)) ≡ is_header v s i
headed_by v s i (Some t) = refl
headed_by v s i None = refl

empty_header : (v : Service) (s : List ℕ) (i : ℕ) → length s ≤ i → false ≡ is_header v s i
unfolding tag_at lex value_of text same_list is_header
empty_header v s i h = rw (drop_of_length-le s) refl

-- "first segment, finished or not": the one that begins there
pub headed_at_lem : (v : Service) (s : List ℕ) (i : ℕ) → headed v s (segments_from v s i) ≡ is_header v s i
headed_at_lem v s i = go (dec_lt i (length s))
  where
    go : Dec (i < length s) → headed v s (segments_from v s i) ≡ is_header v s i
    go (yes h) =
        ap (headed v s) (segments_at v s i)
        ∙ rw (← segment_by_lem v s i h (end_from v false i (drop i s)) refl) (headed_by v s i (end_from v false i (drop i s)))
    go (no g) = let h : length s ≤ i = omega arith in ap (headed v s) (rest_nothing v s i h) ∙ empty_header v s i h

-- ---- opening
module _ (v : Service) (s : List ℕ) (una f : ℕ) (q : f ≡ first_at s una) (b : Bool) (c : b ≡ is_header v s f) where
  header_is : headed v s (segments_from v s (first_at s una)) ≡ b
  header_is = ap (λ (i : ℕ). headed v s (segments_from v s i)) (sym q) ∙ headed_at_lem v s f ∙ sym c

  pub header_found : b ≡ true → Ok f ≡ header_by v s (first_at s una)
  header_found e = ap Ok q ∙ simp (header_is, e)

  pub header_missed : b ≡ false → (r : Refusal) → r ≡ refusal numbers.Header → Err r ≡ header_by v s (first_at s una)
  header_missed e r w = ap Err w ∙ simp (header_is, e)

-- opening from where the UNB begins, if there is one
abbrev opened_from : Service → List ℕ → Result ℕ Refusal → Opening
opened_from v s (Ok i) = if (ended v s (segments_from v s i)) (Opens v i) (Err (refusal numbers.End))
opened_from v s (Err r) = Err r

opened_if : (v : Service) (s : List ℕ) (i : ℕ) (b : Bool) → if b (if (ended v s (segments_from v s i)) (Opens v i) (Refused (refusal numbers.End))) (Refused (refusal numbers.Header)) ≡ opened_from v s (if b (Ok i) (Err (refusal numbers.Header)))
opened_if v s i true = refl
opened_if v s i false = refl

header_if : (b : Bool) (f i : ℕ) → ◌≡◌ {A = Result ℕ Refusal} (if b (Ok f) (Err (refusal numbers.Header))) (Ok i) → (f ≡ i) × (b ≡ true)
header_if true f i e = (cc, refl)
header_if false f i e = absurd (let z : ◌≡◌ {A = ℕ} 0 1 = cc in omega arith)

module _ (v : Service) (s : List ℕ) (first : ℕ) (k : Result ℕ Refusal) (c : k ≡ header_by v s first) where
  by_header : opened_by v s first ≡ opened_from v s k
  unfolding opened_by
  by_header = opened_if v s first (headed v s (segments_from v s first)) ∙ ap (opened_from v s) (sym c)

  pub open_headless : (r : Refusal) → k ≡ Err r → Err r ≡ opened_by v s first
  open_headless r e = sym (by_header ∙ ap (opened_from v s) e)

  module _ (i : ℕ) (e : k ≡ Ok i) where
    pub header_holds : is_header v s i ≡ true
    header_holds = let w = header_if (headed v s (segments_from v s first)) first i (sym c ∙ e) in sym (headed_at_lem v s i) ∙ ap (λ (j : ℕ). headed v s (segments_from v s j)) (sym w.0) ∙ w.1

    module _ (z : Bool) (d : z ≡ ended v s (segments_from v s i)) where
      pub open_endless : z ≡ false → (r : Refusal) → r ≡ refusal numbers.End → Err r ≡ opened_by v s first
      open_endless h r w = ap Err w ∙ sym (by_header ∙ ap (opened_from v s) e ∙ rw (← d, h) refl)

      pub open_whole : z ≡ true → Opens v i ≡ opened_by v s first
      open_whole h = sym (by_header ∙ ap (opened_from v s) e ∙ rw (← d, h) refl)

-- ---- 1 and 2
module _ (s : List ℕ) where
  pub read_long : 1048576 < length s → (r : Refusal) → r ≡ refusal numbers.TooLong → Err r ≡ read_by s
  unfolding read_by
  read_long h r w = ap Err w ∙ simp (lt-ltb 1048576 (length s) h)

  module _ (h : length s ≤ 1048576) (k : Option Characters) (c : k ≡ characters_of s) where
    read_named : read_with k ≡ read_by s
    unfolding read_by
    read_named = rw c (simp (le-ltb 1048576 (length s) h))

    pub read_unfit : k ≡ None → (r : Refusal) → r ≡ refusal numbers.Characters → Err r ≡ read_by s
    read_unfit e r w = ap Err w ∙ rw e at read_named

    pub read_fit : (d : Characters) → k ≡ Some d → Ok d ≡ read_by s
    read_fit d e = rw e at read_named

  -- ---- what they say of opening
  abbrev opening_read : Result Characters Refusal → Opening
  opening_read (Ok d) = opened_by d.service s (first_at s d.una)
  opening_read (Err r) = Refused r

  read_if : (t : Bool) (k : Option Characters) → opening_read (if t (Err (refusal numbers.TooLong)) (read_with k)) ≡ if t (Refused (refusal numbers.TooLong)) (opening_by s k)
  read_if true k = refl
  read_if false (Some d) = refl
  read_if false None = refl

  module _ (k : Result Characters Refusal) (c : k ≡ read_by s) where
    open_by : opening_read k ≡ opening_of s
    unfolding read_by opening_of
    open_by = ap opening_read c ∙ read_if (ltb 1048576 (length s)) (characters_of s)

    pub open_unread : (r : Refusal) → k ≡ Err r → Refused r ≡ opening_of s
    open_unread r e = rw e at open_by

    pub open_read : (d : Characters) → k ≡ Ok d → (r : Opening) → r ≡ opened_by d.service s (first_at s d.una) → r ≡ opening_of s
    open_read d e r w = w ∙ rw e at open_by
