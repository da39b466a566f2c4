-- What is told and stored of a trace is read as it was handed back. Assumes nothing.
use mathlib.Core.Path.{◌≡◌, refl, sym, ap, ◌∙◌, subst}
use mathlib.Core.List.{List}
use Prim.Native.Nat.{ℕ}
use lib.ListN.{replicate}
use Rattle.plan_format.specs.declared.Told.{Told}
use Rattle.plan_trace.specs.declared.Traced.{Traced}
use Rattle.plan_trace.specs.State.{nothing_traced}
use Rattle.plan_trace.specs.Numbers.{number_of, operation_of, wait_of, found_numbers}
use Rattle.plan_trace.specs.Promise.{TraceRight}
use Rattle.c_told.specs.Told.{told_of}
use Rattle.c_trace.specs.Handed.{found_size, TraceHanded}

-- what is found of nothing traced
nothing_found : found_numbers nothing_traced ≡ replicate found_size 0
unfolding found_numbers nothing_traced operation_of wait_of
nothing_found = refl

module _ (bs ts told found t tx l lx s sx : List ℕ) (n i a : ℕ) (x : Traced) where
  abbrev answer : (a : ℕ) → Told
  answer a = record { number = n; place = i; answer = a }

  pub handed : TraceRight bs ts (answer (number_of x.followed)) x t tx l lx s sx → told_of told ≡ answer a →
      a ≡ number_of x.followed → found ≡ found_numbers x → TraceHanded bs ts told found t tx l lx s sx
  handed right e f g =
      let read : TraceRight bs ts (told_of told) x t tx l lx s sx =
      subst (λ (z : Told). TraceRight bs ts z x t tx l lx s sx) (sym (e ∙ ap answer f)) right in
      record {
        traced = x;
        right = read;
        found_is = g;
        refused = λ h. g ∙ ap found_numbers (read.nothing h) ∙ nothing_found;
      }
