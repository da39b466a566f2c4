-- A frontier sent out that is told and stored is read as it was sent. Assumes nothing.
use mathlib.Core.Path.{◌≡◌, sym, ap, ◌∙◌, subst}
use mathlib.Core.Bool.{true, false}
use mathlib.Core.List.{List, []}
use Prim.Native.Nat.{ℕ}
use native.Mathlib.Omega.{arith}
use lib.Dec.{eqb}
use borrow.Author.Tests.{eqb-true, eqb-false}
use Rattle.base_lists.proofs.Tests.{by_cases}
use Rattle.plan_format.specs.declared.Told.{Told}
use Rattle.frontier.specs.Frontiers.{well_formed}
use Rattle.frontier.proofs.Pack.{well_formed_pack}
use Rattle.ask_frontier.specs.declared.Sent.{Sent}
use Rattle.ask_frontier.specs.SentMeaning.{FrontierRight}
use Rattle.c_lent.specs.Lent.{frontier_of}
use Rattle.c_lent.proofs.Frontiers.{frontier_back}
use Rattle.cundvrest_c.specs.Sent.{SentSays, sent_of}

module _ (bytes : List ℕ) (j capacity : ℕ) (r : Sent) (table table_now list list_now told frontier : List ℕ) where
  pub sent_answered : SentSays r told frontier → FrontierRight bytes j capacity r table table_now list list_now →
      FrontierRight bytes j capacity (sent_of told frontier) table table_now list list_now ×
      SentSays (sent_of told frontier) told frontier
  unfolding sent_of
  sent_answered says right_of =
      let e = same in (
        subst (λ (k : Sent). FrontierRight bytes j capacity k table table_now list list_now) e right_of,
        subst (λ (k : Sent). SentSays k told frontier) e says,
      )
    where
      whole : well_formed r.frontier ≡ true
      whole =
          by_cases (eqb r.number 0) (λ t. (right_of.means (eqb-true r.number 0 t)).formed)
          (λ n. ap well_formed (right_of.number.refused (eqb-false r.number 0 n))
          ∙ well_formed_pack [] false tt (omega arith))

      same : r ≡ sent_of told frontier
      same = λ i. record {
        number = sym (ap (λ (t : Told). t.number) says.0) i;
        place = sym (ap (λ (t : Told). t.place) says.0) i;
        frontier = sym (ap frontier_of says.1 ∙ frontier_back r.frontier whole) i;
      }
