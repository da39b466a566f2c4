-- What is printed for a trace and a plan is printed for all that begin as they do. Assumes nothing.
use mathlib.Core.Path.{◌≡◌, sym}
use mathlib.Core.Bool.{true}
use mathlib.Core.List.{List}
use Prim.Native.Nat.{ℕ}
use Rattle.plan_format.specs.Stored.{all_bytes, scanned}
use Rattle.plan_format.proofs.Prefix.{ReadsAlike}
use Rattle.plan_trace.specs.Promise.{TracedAlike, SameTrace}
use Rattle.plan_trace.proofs.FirstBytes.{trace_alike}
use Rattle.plan_trace.proofs.Promises.{trace_right}
use Rattle.plan_trace.proofs.SaysAlike.{trace_says_alike}
use Rattle.print_trace.specs.Printed.{TracePrinted}
use Rattle.print_input.proofs.Inputs.{sizes_alike}

module _ (bs cs ts us : List ℕ) (read : ReadsAlike (scanned bs) (scanned cs)) (bytes : all_bytes us ≡ true)
    (alike : SameTrace us ts) where
  begun_alike : TracedAlike ts us
  begun_alike = let w = trace_alike us ts bytes alike in record { refusal = sym w.refusal; steps = sym w.steps }

  pub printed_alike : (o x : List ℕ) (e : ℕ) → TracePrinted bs ts o x e → TracePrinted cs us o x e
  printed_alike o x e w = record {
    answer = w.answer;
    table = w.table;
    list = w.list;
    state = w.state;
    right = trace_right cs us _ _ _ w.table _ w.list _ w.state
        (trace_says_alike bs cs ts us read begun_alike _ _ _ w.table _ w.list _ w.state w.right.says);
    sizes = sizes_alike bs cs read w.answer.counted.counts w.sizes;
    text = w.text;
  }
