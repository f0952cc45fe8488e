-- What the run of parties comes to: the first fault under 27. Assumes nothing.
use Rattle.std.specs.Prelude.{ℕ, min, ◌≡◌, refl, List, [], ◌∷◌, Bool, true, false, ◌&&◌, ◌||◌, Option}
use Rattle.std.proofs.Common.{arith, sym, ◌∙◌}
use Prim.Native.String.{String}
use Rattle.message.specs.Segs.{Seg, Name, LIN, FII6, NAD7, SEQ, FII12, NAD13, is}
use Rattle.message.specs.Rules.{named, party, order_holds, payment_holds, fault27_b, fault27_c, rule27}
use Rattle.message.specs.Forms.Run.{run, first_of, level_step}
use Rattle.message.proofs.Laws.FirstLaws.{first_append, first_unless}
use Rattle.message.proofs.Laws.LevelLaws.{goes_late, Tells, level_tells}
use Rattle.message.specs.Forms.Counts.{cap_step, some_step}
use Rattle.message.proofs.Laws.CountLaws.{capped, some_came, cap_eq, cap_one}
use Rattle.parties.specs.declared.Parties.{Parties}
use Rattle.parties.specs.Forms.Steps.{level_of, level_inner, order_comes, payment_comes, level27_b, level27_c, parties_of, order_part, payment_part, parties_start, parties_step, parties_close}

-- no rule tells two from more
order_capped : (a b c : ℕ) (n : Bool) → order_holds (min a 2) n (min b 2) (min c 2) ≡ order_holds a n b c
unfolding order_holds
order_capped a b c n = rw (cap_eq 1 a (omega arith), cap_one b, cap_one c, cap_eq 0 b (omega arith))

payment_capped : (a b c : ℕ) (n : Bool) → payment_holds (min a 2) n (min b 2) (min c 2) ≡ payment_holds a n b c
unfolding payment_holds
payment_capped a b c n = rw (cap_one a, cap_one b, cap_one c, cap_eq 0 a (omega arith), cap_eq 1 c (omega arith), cap_eq 0 b (omega arith))

-- each count runs by itself
inner_run : (fii : Name) (a : String) (nad : Name) (h o : String) (f : Option ℕ) (x y z : ℕ) (b : Bool) (ss : List Seg)
    → run (level_inner fii a nad h o) (level_of f x b y z) ss
    ≡ level_of f (run (cap_step (party fii a)) x ss) (run (some_step (λ s. party fii a s && named s)) b ss) (run (cap_step (party nad h)) y ss) (run (cap_step (party nad o)) z ss)
unfolding run level_inner
inner_run fii a nad h o f x y z b [] = refl
inner_run fii a nad h o f x y z b (s ∷ ss) =
    inner_run fii a nad h o f (cap_step (party fii a) x s) (cap_step (party nad h) y s) (cap_step (party nad o) z s) (some_step (λ s. party fii a s && named s) b s) ss

tells27_b : Tells level27_b fault27_b
unfolding order_comes
tells27_b = record {
  sound = λ s ss.
      rw (first_unless, goes_late level27_b (λ o s. refl) (level27_b.start s) ss, inner_run, capped (party FII6 "OR"), capped (party NAD7 "PL"), capped (party NAD7 "OY"), some_came (λ s. party FII6 "OR" s && named s), order_capped);
  quiet = λ ss. goes_late level27_b (λ o s. refl) level27_b.idle ss ∙ rw inner_run;
  ended = λ s e. e;
}

neither : (a b : Bool) → a || b ≡ false → b ≡ false
neither true b e = cc
neither false b e = e

tells27_c : Tells level27_c fault27_c
unfolding payment_comes
tells27_c = record {
  sound = λ s ss.
      rw (first_unless, goes_late level27_c (λ p s. refl) (level27_c.start s) ss, inner_run, capped (party FII12 "BF"), capped (party NAD13 "PE"), capped (party NAD13 "BE"), some_came (λ s. party FII12 "BF" s && named s), payment_capped);
  quiet = λ ss. goes_late level27_c (λ p s. refl) level27_c.idle ss ∙ rw inner_run;
  ended = λ s e. neither (is LIN s) (is SEQ s) e;
}

-- the run of both is the two runs
parts : (st : Parties) (ss : List Seg) → run parties_step st ss ≡ parties_of (run (level_step level27_b) (order_part st) ss) (run (level_step level27_c) (payment_part st) ss)
unfolding run parties_step
parts st [] = refl
parts st (s ∷ ss) = parts (parties_step st s) ss

pub agree27 : (m : List Seg) → parties_close (run parties_step parties_start m) ≡ first_of (rule27 m)
unfolding rule27 parties_close
agree27 m = rw (parts parties_start m, level_tells level27_b fault27_b tells27_b m, level_tells level27_c fault27_c tells27_c m) (sym (first_append _ _))
