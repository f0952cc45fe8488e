-- A loop over the segments of a message, by those that are passed and those that are left. Assumes nothing.
use Rattle.std.proofs.Common.{◌∙◌, append_assoc, append-nil, subst}
use Rattle.std.specs.Prelude.{◌≡◌, List, [], ◌∷◌, ◌++◌}
use Rattle.std.proofs.Math.Path.{sym}
use Rattle.message.specs.Segs.{Seg}

-- some segments are passed, and the state is what it is after them
pub record Going {S : Type 0} (After : List Seg → S → Type 0) (all left : List Seg) (st : S) : Type 0 where
  pub passed : List Seg
  pub whole : all ≡ passed ++ left
  pub after : After passed st

module _ {S : Type 0} (After : List Seg → S → Type 0) (all left : List Seg) (st : S) where
  pub going_first : left ≡ all → After [] st → Going After all left st
  going_first e a = record { passed = []; whole = sym e; after = a }

  module _ (i : Going After all left st) where
    pub going_next : (s : Seg) (on : List Seg) → left ≡ s ∷ on → (u : S) → ((ss : List Seg) → After ss st → After (ss ++ (s ∷ [])) u) → Going After all on u
    going_next s on e u p = record { passed = i.passed ++ (s ∷ []); whole = i.whole ∙ rw e (sym (append_assoc i.passed _ _)); after = p i.passed i.after }

    pub going_end : left ≡ [] → After all st
    going_end e = subst (λ (ss : List Seg). After ss st) (sym (i.whole ∙ rw e (append-nil i.passed))) i.after
