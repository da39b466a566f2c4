-- A loop that stores f 0, f 1, .. from a place on. Assumes nothing.
use mathlib.Core.Path.{◌≡◌, sym, ap, ◌∙◌}
use mathlib.Core.List.{List}
use Prim.Native.Nat.{ℕ, suc, ◌+◌, ◌-◌, ◌≤◌, ◌<◌}
use native.Mathlib.Nat.{zero-add}
use native.Mathlib.Numerals.{add-one}
use native.Mathlib.Omega.{arith}
use lib.ListN.{length, set}
use lib.Seq.{sets, length-sets}
use Rattle.base_lists.specs.Lists.{tabulate_from}

pub record Putting (f : ℕ → ℕ) (place many : ℕ) (before now : List ℕ) (j : ℕ) : Type 0 where
  pub inside : j ≤ many
  pub rest : sets now (place + j) (tabulate_from (many - j) j f) ≡ sets before place (tabulate_from many 0 f)

module _ {f : ℕ → ℕ} {place many : ℕ} {before : List ℕ} where
  pub putting_none : Putting f place many before before 0
  putting_none =
      let e : place + 0 ≡ place = omega arith in
      let m : many - 0 ≡ many = omega arith in
      record { inside = omega arith; rest = rw (e, m) }

  pub putting_next : {old new : List ℕ} {j v : ℕ} → Putting f place many before old j → j < many →
      new ≡ set old (place + j) v → v ≡ f j →
      Putting f place many before new (j + 1)
  unfolding tabulate_from
  putting_next {j} b l e h =
      let m : many - j ≡ suc (many - (j + 1)) = omega arith in
      let n : place + (j + 1) ≡ suc (place + j) = omega arith in
      record { inside = omega arith; rest = rw (e, h, n, add-one j) (rw (m, add-one j) at b.rest) }

  pub putting_end : {now : List ℕ} {j : ℕ} → many ≤ j → Putting f place many before now j →
      now ≡ sets before place (tabulate_from many 0 f)
  unfolding tabulate_from
  putting_end {j} l b = let m : many - j ≡ 0 = omega arith in rw m at b.rest

  pub putting_length : {now : List ℕ} {j : ℕ} → Putting f place many before now j → length now ≡ length before
  putting_length {now} {j} b =
      sym (length-sets now (place + j) (tabulate_from (many - j) j f)) ∙ ap (λ (l : List ℕ). length l) b.rest
      ∙ length-sets before place (tabulate_from many 0 f)

-- from the front on
pub putting_front : {f : ℕ → ℕ} {many : ℕ} {before old new : List ℕ} {j v : ℕ} → Putting f 0 many before old j →
    j < many → new ≡ set old j v → v ≡ f j →
    Putting f 0 many before new (j + 1)
putting_front {j} b l e h = putting_next b l (e ∙ rw (zero-add j)) h
