-- What is left of the walk over the signals: each turn of the loop takes one step of it. Assumes nothing.
use mathlib.Core.Path.{◌≡◌, sym, ◌∙◌}
use mathlib.Core.List.{List}
use Prim.Native.Nat.{ℕ, suc, ◌+◌, ◌-◌, ◌≤◌, ◌<◌}
use native.Mathlib.Omega.{arith}
use lib.ListN.{length, get_or, set}
use borrow.Author.Tests.{le-leb, lt-leb}
use Rattle.plan_format.specs.Refusal.{Refusal, refusal, none_given}
use Rattle.check_signals.specs.Walks.{cleared, held_in, signals_walk, lasts_walk, signals_found}
use Rattle.check_signals.specs.Walks.{lasts_found}

-- from k on, with this table, the walk finds and leaves what the whole does
pub record SignalsLeft (ssem sval sop : List ℕ) (m : ℕ) (first : List ℕ) (k : ℕ) (last : List ℕ) : Type 0 where
  pub found : signals_walk ssem sval sop (m - k) k last ≡ signals_walk ssem sval sop m 0 first
  pub table : lasts_walk ssem sval (m - k) k last ≡ lasts_walk ssem sval m 0 first

-- the walk finds this refusal, and leaves this table
pub record Stops (ssem sval sop : List ℕ) (m : ℕ) (first : List ℕ) (r : Refusal) (last : List ℕ) : Type 0 where
  pub found : r ≡ signals_walk ssem sval sop m 0 first
  pub table : last ≡ lasts_walk ssem sval m 0 first

-- what the walk finds and leaves, by all that is lent
pub record Found (semaphores signals : ℕ) (ssem sval sop : List ℕ) (before : List ℕ) (r : Refusal)
    (last : List ℕ) : Type 0 where
  pub found : r ≡ signals_found semaphores signals ssem sval sop before
  pub table : last ≡ lasts_found semaphores signals ssem sval sop before

pub stops_found : {semaphores signals m : ℕ} {ssem sval sop before first last : List ℕ} {r : Refusal} →
    first ≡ cleared semaphores before → m ≡ held_in signals (length ssem) (length sval) (length sop) →
    Stops ssem sval sop m first r last → Found semaphores signals ssem sval sop before r last
unfolding signals_found lasts_found
stops_found e em h = record { found = rw (← e, ← em) h.found; table = rw (← e, ← em) h.table }

module _ {ssem sval sop : List ℕ} {m : ℕ} {first : List ℕ} where
  pub signals_none : SignalsLeft ssem sval sop m first 0 first
  signals_none = let e : m - 0 ≡ m = omega arith in record { found = rw e; table = rw e }

  module _ {k x v l : ℕ} {last : List ℕ} (left : SignalsLeft ssem sval sop m first k last) (inside : k < m)
      (ex : x ≡ get_or ssem k 0) (ev : v ≡ get_or sval k 0) (el : l ≡ get_or last x 0) where
    one : m - k ≡ suc (m - suc k)
    one = omega arith

    pub signals_seven : v ≤ l → {i : ℕ} → i ≡ get_or sop k 0 → Stops ssem sval sop m first (refusal 7 i) last
    unfolding signals_walk lasts_walk
    signals_seven h ei = record {
      found = sym (rw (one, ← ex, ← ei, ← ev, ← el, le-leb v l h)) ∙ left.found;
      table = sym (rw (one, ← ex, ← ev, ← el, le-leb v l h)) ∙ left.table;
    }

    pub signals_more : l < v → {new : List ℕ} → new ≡ set last x v →
        SignalsLeft ssem sval sop m first (k + 1) new
    unfolding signals_walk lasts_walk
    signals_more h et =
        let here : k + 1 ≡ suc k = omega arith in
        record {
          found = rw (here, et) (sym (rw (one, ← ex, ← ev, ← el, lt-leb v l h)) ∙ left.found);
          table = rw (here, et) (sym (rw (one, ← ex, ← ev, ← el, lt-leb v l h)) ∙ left.table);
        }

  module _ {k : ℕ} {last : List ℕ} (left : SignalsLeft ssem sval sop m first k last) (out : m ≤ k) where
    past : m - k ≡ 0
    past = omega arith

    pub signals_end : Stops ssem sval sop m first none_given last
    unfolding signals_walk lasts_walk
    signals_end = record { found = sym (rw past) ∙ left.found; table = sym (rw past) ∙ left.table }
