-- What one turn of the loop over the signals does, and what is made of the place that it finds. Assumes nothing.
use mathlib.Core.Path.{◌≡◌, sym, ap, ◌∙◌}
use mathlib.Core.Bool.{Bool, false}
use mathlib.Core.List.{List}
use mathlib.Core.Option.{Option, none, some}
use Prim.Native.Nat.{ℕ, ◌+◌, ◌*◌, ◌%◌, ◌≤◌, ◌<◌}
use native.Mathlib.Omega.{arith}
use lib.Dec.{leb}
use lib.ListN.{get_or}
use borrow.Author.Tests.{le-leb, lt-leb}
use borrow.Author.Count.{below_none, below_more}
use Rattle.base_lists.specs.Lists.{lowest_below}
use Rattle.base_lists.proofs.Tests.{by_option, clash}
use Rattle.base_lists.proofs.Searches.{lowest_some, lowest_is}
use Rattle.plan_format.specs.Sizes.{most_operations, row_width}
use Rattle.check_columns.specs.Shown.{ordered}
use Rattle.plan_suggest.specs.declared.Advice.TheVariants.{NoneNeeded, Wait}
use Rattle.ask_suggest.specs.SuggestPass.{suggested, first_after, at_signal}
use Rattle.ask_suggest.specs.declared.Suggested.{Suggested}

-- the signal at a place is of operation i or of one after it
abbrev after : (queue rows sop : List ℕ) → (i k : ℕ) → Bool
after queue rows sop i k = ordered queue rows (i % most_operations) (get_or sop k 0 % most_operations)

-- none of the first k signals is so; q and own are the queue of i and the entry of its own row
pub record Past (queue rows sop : List ℕ) (i q own k : ℕ) : Type 0 where
  pub low : q < row_width
  pub queue_is : q ≡ get_or queue (i % most_operations) 0 % row_width
  pub own_is : own ≡ get_or rows (row_width * (i % most_operations) + q) 0
  pub none_before : (n : ℕ) → n < k → after queue rows sop i n ≡ false

module _ (queue rows sop : List ℕ) (i : ℕ) where
  pub past_none : {x own : ℕ} → x ≡ get_or queue (i % most_operations) 0 →
      own ≡ get_or rows (row_width * (i % most_operations) + x % row_width) 0 →
      Past queue rows sop i (x % row_width) own 0
  past_none e f = record {
    low = omega arith;
    queue_is = ap (λ (z : ℕ). z % row_width) e;
    own_is = f;
    none_before = below_none _;
  }

  module _ {q own k : ℕ} (past : Past queue rows sop i q own k) where
    -- the signal at k
    module _ {x other : ℕ} (x_is : x ≡ get_or sop k 0)
        (other_is : other ≡ get_or rows (row_width * (x % most_operations) + q) 0) where
      after_is : after queue rows sop i k ≡ leb own other
      unfolding ordered
      after_is = rw (← x_is, ← past.queue_is, ← past.own_is, ← other_is)

      pub past_more : other < own → Past queue rows sop i q own (k + 1)
      past_more l = record {
        low = past.low;
        queue_is = past.queue_is;
        own_is = past.own_is;
        none_before = below_more _ _ past.none_before (after_is ∙ lt-leb own other l);
      }

      pub past_here : (n : ℕ) → k < n → own ≤ other → first_after queue rows sop i n ≡ some k
      unfolding first_after
      past_here n inside l =
          lowest_is n (after queue rows sop i) k
          (record { inside = inside; passes = after_is ∙ le-leb own other l; lower = past.none_before })

    pub past_end : (n : ℕ) → n ≤ k → ◌≡◌ {A = Option ℕ} (first_after queue rows sop i n) none
    unfolding first_after
    past_end n l =
        by_option (lowest_below n (after queue rows sop i)) (λ e. e)
        (λ m e. let w = lowest_some n (after queue rows sop i) m e in
        clash (after queue rows sop i m) w.passes (past.none_before m (omega (arith, w.inside))))

-- ---- what is handed back for the place that was found
module _ (ssem sval : List ℕ) (b : ℕ) (found : Option ℕ) {r : Suggested} where
  pub without_signal : ◌≡◌ {A = Option ℕ} found none → r ≡ suggested 19 b NoneNeeded → r ≡ at_signal ssem sval b found
  unfolding at_signal
  without_signal h e = rw h e

  pub one_signal : {s v k : ℕ} → found ≡ some k → s ≡ get_or ssem k 0 → v ≡ get_or sval k 0 →
      r ≡ suggested 0 0 (Wait s v) → r ≡ at_signal ssem sval b found
  unfolding at_signal
  one_signal h f g e = rw (h, ← f, ← g) e
