-- The signals of a plan by their places in one list: each is where it says, every signal of every operation is there,
-- and they are in plan order and then in list order. Assumes nothing.
use mathlib.Core.Path.{◌≡◌, sym, ap}
use Prim.Native.Nat.{ℕ, ◌<◌}
use lib.ListN.{length, get_or}
use Rattle.base_lists.proofs.Places.{mem_place, mem_at}
use Rattle.plan_format.specs.Plan.{Point, Plan}
use Rattle.plan_format.specs.Meaning.{signal_at, IsSignal, Earlier}
use Rattle.plan_order.specs.Precedence.{Signal, no_signal, plan_signals}
use Rattle.plan_order.proofs.SignalPlaces.{signal, plan_signal, signal_there, signal_in, plan_rising}
use Rattle.plan_suggest.specs.Suggest.{wait_for}

module _ (p : Plan) where
  abbrev pub at : (n : ℕ) → Signal
  at n = get_or (plan_signals p) n no_signal

  pub place_signal : (n : ℕ) → n < length (plan_signals p) →
      IsSignal p (at n).operation (at n).position × (signal_at p (at n).operation (at n).position ≡ wait_for p n)
  unfolding signal wait_for
  place_signal n l =
      let w = signal_there p (at n) (mem_at (plan_signals p) no_signal n l) in
      (w.0, ap {B = Point} (λ z. record { semaphore = z.semaphore; value = z.value }) (sym w.1))

  pub signal_place : (i k : ℕ) → IsSignal p i k →
      (n : ℕ) × (n < length (plan_signals p)) × ((at n).operation ≡ i) × ((at n).position ≡ k)
  unfolding signal
  signal_place i k l =
      let w = mem_place (plan_signals p) no_signal (plan_signal p i k) (signal_in p i k l) in
      (w.0, w.1, ap (λ (z : Signal). z.operation) w.2, ap (λ (z : Signal). z.position) w.2)

  pub signals_rise : (m n : ℕ) → m < n → n < length (plan_signals p) →
      Earlier (at m).operation (at m).position (at n).operation (at n).position
  signals_rise m n l inside = plan_rising p m n l inside
