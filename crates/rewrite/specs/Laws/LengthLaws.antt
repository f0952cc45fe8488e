-- One token more, and one segment more: how many plain bytes they take. Assumes nothing.
use Rattle.std.specs.Prelude.{ℕ, ◌+◌, ◌*◌, ◌≤◌, ◌≡◌, Bool, length, drop, replicate}
use Rattle.std.proofs.Common.{add-one, arith, ◌∙◌, length-append, Fits}
use Rattle.std.proofs.Math.Path.{refl, sym, ap}
use mathlib.Core.List.{List, [], ◌∷◌, ◌++◌, append_assoc}
use Rattle.std.proofs.Math.Bool.{true, false}
use Rattle.std.proofs.lemmas.List.{length-replicate}
use Rattle.std.specs.Int.{w64}
use Rattle.service.specs.declared.Service.{Service}
use Rattle.service.specs.Tests.{if}
use Rattle.segments.specs.Classes.{is_break}
use Rattle.segments.specs.SegmentList.{segments_from}
use Rattle.segments.specs.Laws.StartsLaws.{starts_count, starts_few}
use Rattle.segments.specs.declared.Piece.{Piece}
use Rattle.segments.specs.declared.Piece.TheVariants.{Finished as finished, Unfinished as unfinished}
use Rattle.parts.specs.declared.Token.{Token}
use Rattle.parts.specs.declared.Token.TheVariants as token
use Rattle.parts.specs.Parts.{Tok, byte, comp, elem, lex}
use Rattle.parts.specs.Forms.Lex.{token_at}
use Rattle.parts.proofs.Laws.LexLaws.{reads_byte, reads_comp, reads_elem, reads_stop, tokens_short}
use Rattle.parts.specs.Trimmed.{values_at, values_in, values_from}
use Rattle.rewrite.specs.Plain.{is_released, plain_byte, plain_segment, plain}
use Rattle.rewrite.specs.Forms.Flat.{flat, leads, lead}
use Rattle.rewrite.specs.Laws.FlatLaws.{flat_segment}

pub width_two : (b : ℕ) (t : Bool) → t ≡ is_released b → t ≡ true → 2 ≡ length (plain_byte b)
unfolding plain_byte
width_two b t e q = rw (← e, q)

pub width_one : (b : ℕ) (t : Bool) → t ≡ is_released b → t ≡ false → 1 ≡ length (plain_byte b)
unfolding plain_byte
width_one b t e q = rw (← e, q)

width_most : (b : ℕ) → length (plain_byte b) ≤ 2
unfolding plain_byte
width_most b = go (is_released b)
  where
    go : (x : Bool) → length (if x (63 ∷ b ∷ []) (b ∷ [])) ≤ 2
    go true = omega arith
    go false = omega arith

-- ---- a CR or LF that begins a segment
module _ (v : Service) (s : List ℕ) (i : ℕ) (k : Token) (q : k ≡ token_at v i (drop i s)) where
  pub leads_byte : (b to : ℕ) → k ≡ token.Byte b to → (t : Bool) → t ≡ is_break b → t ≡ leads (lex v false (drop i s))
  leads_byte b to f t e = rw (reads_byte v s i k q b to f).0 e

  pub leads_comp : (to : ℕ) → k ≡ token.Comp to → false ≡ leads (lex v false (drop i s))
  leads_comp to f = rw (reads_comp v s i k q to f).0

  pub leads_elem : (to : ℕ) → k ≡ token.Elem to → false ≡ leads (lex v false (drop i s))
  leads_elem to f = rw (reads_elem v s i k q to f).0

  pub leads_stop : k ≡ token.Stop → false ≡ leads (lex v false (drop i s))
  leads_stop f = rw (reads_stop v s i k q f)

-- ---- what a token more makes of what is left to write
module _ (e c : ℕ) (l : List Tok) where
  pub flat_byte : (b : ℕ) (t : List Tok) → l ≡ byte b ∷ t → flat e c l ≡ replicate e 43 ++ (replicate c 58 ++ (plain_byte b ++ flat 0 0 t))
  unfolding flat
  flat_byte b t q = ap (flat e c) q

  pub flat_comp : (t : List Tok) → l ≡ comp ∷ t → flat e c l ≡ flat e (c + 1) t
  unfolding flat
  flat_comp t q = rw (add-one c) (ap (flat e c) q)

  pub flat_elem : (t : List Tok) → l ≡ elem ∷ t → flat e c l ≡ flat (e + 1) 0 t
  unfolding flat
  flat_elem t q = rw (add-one e) (ap (flat e c) q)

  pub flat_stop : l ≡ [] → flat e c l ≡ []
  unfolding flat
  flat_stop q = ap (flat e c) q

-- ---- so many bytes are counted before the tokens l, e and c separators wait, and the text has x bytes in all
pub record Counted (x n e c : ℕ) (l : List Tok) : Type 0 where
  pub whole : x ≡ n + length (flat e c l)
  pub most : n + e + c + 2 * length l ≤ 2097152

pub counted_start : (v : Service) (s : List ℕ) (i : ℕ) → length s ≤ 1048576
    → Counted (length (flat 0 0 (lex v false (drop i s)))) 0 0 0 (lex v false (drop i s))
counted_start v s i h = let z = tokens_short v s i in record { whole = omega arith; most = omega arith }

module _ (x n e c : ℕ) (l : List Tok) (w : Counted x n e c l) where
  pub count_add : Fits w64 (n + e)
  count_add = omega (arith, w.most)

  pub count_sum : Fits w64 (n + e + c)
  count_sum = omega (arith, w.most)

  pub count_width : (b y : ℕ) → y ≡ length (plain_byte b) → Fits w64 (n + e + c + y)
  count_width b y g = let z = width_most b in omega (arith, w.most)

  pub count_one_comp : Fits w64 (c + 1)
  count_one_comp = omega (arith, w.most)

  pub count_one_elem : Fits w64 (e + 1)
  count_one_elem = omega (arith, w.most)

  pub count_most : n ≤ 2097152
  count_most = omega (arith, w.most)

  pub count_byte : (b : ℕ) (t : List Tok) → l ≡ byte b ∷ t → (y : ℕ) → y ≡ length (plain_byte b) → Counted x (n + e + c + y) 0 0 t
  count_byte b t f y g =
      let z = width_most b in
      let r = ap length f in
      let l0 = ap length (flat_byte e c l b t f) in
      let l1 = length-append (replicate e 43) (replicate c 58 ++ (plain_byte b ++ flat 0 0 t)) in
      let l2 = length-append (replicate c 58) (plain_byte b ++ flat 0 0 t) in
      let l3 = length-append (plain_byte b) (flat 0 0 t) in
      let l4 = length-replicate {A = ℕ} e 43 in
      let l5 = length-replicate {A = ℕ} c 58 in
      record { whole = omega (arith, w.whole); most = omega (arith, w.most) }

  pub count_comp : (t : List Tok) → l ≡ comp ∷ t → Counted x n e (c + 1) t
  count_comp t f =
      let r = ap length f in
      record { whole = w.whole ∙ ap (λ (m : List ℕ). n + length m) (flat_comp e c l t f); most = omega (arith, w.most) }

  pub count_elem : (t : List Tok) → l ≡ elem ∷ t → Counted x n (e + 1) 0 t
  count_elem t f =
      let r = ap length f in
      record { whole = w.whole ∙ ap (λ (m : List ℕ). n + length m) (flat_elem e c l t f); most = omega (arith, w.most) }

  pub count_stop : l ≡ [] → n ≡ x
  count_stop f = let l0 = ap length (flat_stop e c l f) in omega (arith, w.whole)

-- ---- a segment
module _ (v : Service) (s : List ℕ) (i n : ℕ) (q : n ≡ length (flat 0 0 (lex v false (drop i s)))) where
  whole_length : length (lead (lex v false (drop i s)) ++ flat 0 0 (lex v false (drop i s))) ≡ length (plain_segment (values_at v s i))
  whole_length = ap length (flat_segment (lex v false (drop i s)))

  pub length_led : (t : Bool) → t ≡ leads (lex v false (drop i s)) → t ≡ true → n + 1 ≡ length (plain_segment (values_at v s i))
  length_led t e f = let x = rw (← e, f) at whole_length in omega arith

  pub length_plain : (t : Bool) → t ≡ leads (lex v false (drop i s)) → t ≡ false → n ≡ length (plain_segment (values_at v s i))
  length_plain t e f = let x = rw (← e, f) at whole_length in q ∙ x

-- ---- what a segment more makes of what is left to write
module _ (v : Service) (s : List ℕ) (a t : ℕ) (l : List Piece) where
  pub rest_finished : plain (values_in v s (finished a t ∷ l)) ≡ (plain_segment (values_at v s a) ++ 39 ∷ []) ++ plain (values_in v s l)
  unfolding values_in plain
  rest_finished = sym (append_assoc (plain_segment (values_at v s a)) (39 ∷ []) (plain (values_in v s l)))

  pub rest_unfinished : plain (values_in v s (unfinished a t ∷ l)) ≡ plain (values_in v s l)
  unfolding values_in plain
  rest_unfinished = refl

pub rest_nothing : (v : Service) (s : List ℕ) → plain (values_in v s []) ≡ []
unfolding values_in plain
rest_nothing v s = refl

-- ---- the segments counted so far, those of l left
pub record Summed (v : Service) (s : List ℕ) (x : ℕ) (l : List Piece) (n : ℕ) : Type 0 where
  pub whole : x ≡ n + length (plain (values_in v s l))
  pub here : n + 2097154 * length l ≤ 2097154 * length s

pub summed_start : (v : Service) (s : List ℕ) (i : ℕ) → Summed v s (length (plain (values_from v s i))) (segments_from v s i) 0
summed_start v s i = let a = starts_count v s i in let c = starts_few v s i in record { whole = omega arith; here = omega arith }

module _ (v : Service) (s : List ℕ) (x : ℕ) (l : List Piece) (n : ℕ) (w : Summed v s x l n) where
  pub sum_nothing : l ≡ [] → n ≡ x
  sum_nothing e = let r = ap (λ (k : List Piece). length (plain (values_in v s k))) e in let z = ap length (rest_nothing v s) in omega (arith, w.whole)

  module _ (a t : ℕ) (k : List Piece) where
    pub sum_unfinished : l ≡ unfinished a t ∷ k → Summed v s x k n
    sum_unfinished e =
        let r = ap (λ (k : List Piece). length (plain (values_in v s k))) e in
        let z = ap length (rest_unfinished v s a t k) in
        let y = ap length e in
        record { whole = omega (arith, w.whole); here = omega (arith, w.here) }

    module _ (e : l ≡ finished a t ∷ k) (y : ℕ) (h : y ≤ 2097153) where
      pub sum_fits : length s ≤ 1048576 → Fits w64 (n + y)
      sum_fits g = let r = ap length e in omega (arith, w.here)

      pub sum_one_fits : length s ≤ 1048576 → Fits w64 (n + y + 1)
      sum_one_fits g = let r = ap length e in omega (arith, w.here)

      pub sum_next : y ≡ length (plain_segment (values_at v s a)) → Summed v s x k (n + y + 1)
      sum_next g =
          let r = ap length e in
          let l0 = ap (λ (m : List Piece). length (plain (values_in v s m))) e in
          let l3 = ap length (rest_finished v s a t k) in
          let l1 = length-append (plain_segment (values_at v s a) ++ 39 ∷ []) (plain (values_in v s k)) in
          let l2 = length-append (plain_segment (values_at v s a)) (39 ∷ []) in
          record { whole = omega (arith, w.whole); here = omega (arith, w.here) }
