-- What is printed for an input is printed for every input that begins as it does. Assumes nothing.
use mathlib.Core.Path.{◌≡◌, sym, ap}
use mathlib.Core.List.{List}
use Prim.Native.Nat.{ℕ}
use lib.ListN.{length}
use Rattle.base_lists.proofs.Tests.{by_cases}
use Rattle.plan_format.specs.Plan.{Plan}
use Rattle.plan_format.specs.Refusal.{given, or_refusal}
use Rattle.plan_format.specs.Stored.{scanned, listed, plan_in, write_refusal}
use Rattle.plan_format.proofs.Judged.{not_given_zero}
use Rattle.plan_format.proofs.Prefix.{ReadsAlike, plan_alike, numbers_alike, taken_alike}
use Rattle.plan_order.proofs.FirstBytes.{judged_alike, check_says_alike, reuse_says_alike}
use Rattle.plan_order.proofs.Checks.{checked}
use Rattle.plan_suggest.proofs.Promises.{suggest_right}
use Rattle.plan_suggest.proofs.SaysAlike.{suggest_says_alike}
use Rattle.check_plan.specs.Counting.{SizesTold}
use Rattle.check_plan.specs.declared.PlanCounts.{PlanCounts}
use Rattle.ask_reuse.proofs.ReuseAsked.{asked}
use Rattle.ask_frontier.specs.Sent.{sent, sent_outcome, FrontierSays}
use Rattle.ask_frontier.specs.declared.Sent.{Sent}
use Rattle.ask_frontier.proofs.SentQuestion.{frontier_right}
use Rattle.print_stored.specs.Texts.{read_text, write_text}
use Rattle.print_input.specs.Inputs.{Answered, SameNumbers}
use Rattle.print_input.specs.declared.Question.{Question}
use Rattle.print_input.specs.declared.Question.TheVariants.{Check, Reuse, Suggest, Frontier, Read}

module _ (bs cs : List ℕ) (read : ReadsAlike (scanned bs) (scanned cs)) where
  pub sizes_alike : (c : PlanCounts) → SizesTold bs c → SizesTold cs c
  sizes_alike c s =
      let f = read.fault in
      let p = plan_alike bs cs read in
      record {
        queues = rw (sym f, sym p) s.queues;
        semaphores = rw (sym f, sym p) s.semaphores;
        buffers = rw (sym f, sym p) s.buffers;
        operations = rw (sym f, sym p) s.operations;
      }

  -- the outcome of the question for a frontier, and the frontier itself
  pub sent_outcome_alike : (j c t l : ℕ) → sent_outcome bs j c t l ≡ sent_outcome cs j c t l
  unfolding sent_outcome
  sent_outcome_alike j c t l = rw ((judged_alike bs cs read).check t l, plan_alike bs cs read)

  pub sent_alike : (j c : ℕ) → sent (plan_in bs) j c ≡ sent (plan_in cs) j c
  sent_alike j c = ap (λ (p : Plan). sent p j c) (plan_alike bs cs read)

  frontier_says_alike : (j c : ℕ) (r : Sent) (t x l y : List ℕ) → FrontierSays bs j c r t x l y →
      FrontierSays cs j c r t x l y
  frontier_says_alike j c r t x l y s =
      let o = sent_outcome_alike j c (length t) (length l) in
      let p = plan_alike bs cs read in
      record { says = rw (sym o, sym p) s.says; frontier_is = rw (sym o, sym p) s.frontier_is }

  read_alike : read_text bs ≡ read_text cs
  unfolding read_text
  read_alike = rw (read.fault, read.got)

  pub answered_alike : (q : Question) (o x : List ℕ) (e : ℕ) → Answered q bs o x e → Answered q cs o x e
  unfolding Answered
  answered_alike Check o x e w = record {
    counted = w.counted;
    table = w.table;
    list = w.list;
    checked = checked cs _ _ w.table _ w.list
        (check_says_alike bs cs read _ _ w.table _ w.list w.checked.says);
    sizes = sizes_alike w.counted.counts w.sizes;
    text = w.text;
  }
  answered_alike (Reuse q b) o x e w = record {
    told = w.told;
    table = w.table;
    list = w.list;
    asked = asked cs q b w.told _ w.table _ w.list
        (reuse_says_alike bs cs read q b w.told _ w.table _ w.list w.asked.says);
    text = w.text;
  }
  answered_alike (Suggest q b) o x e w = record {
    suggested = w.suggested;
    table = w.table;
    list = w.list;
    right = suggest_right cs q b _ _ _ w.table _ w.list
        (suggest_says_alike bs cs read q b _ _ _ w.table _ w.list w.right.says);
    text = w.text;
  }
  answered_alike (Frontier j c) o x e w = record {
    sent = w.sent;
    table = w.table;
    list = w.list;
    right = frontier_right cs j c w.sent _ w.table _ w.list
        (frontier_says_alike j c w.sent _ w.table _ w.list w.right.says);
    text = w.text;
  }
  answered_alike Read o x e w = rw (sym read_alike) w

-- the text of a write
module _ (xs ys : List ℕ) (same : SameNumbers xs ys) where
  pub write_alike : (room : ℕ) → write_text xs room ≡ write_text ys room
  unfolding write_text write_refusal or_refusal
  write_alike k =
      by_cases (given (listed xs).fault)
      (λ g. let f = (numbers_alike xs ys same).fault in rw (sym f, g, g))
      (λ n. ap (λ (z : List ℕ). write_text z k) (taken_alike xs ys same (not_given_zero (listed xs).fault n)))
