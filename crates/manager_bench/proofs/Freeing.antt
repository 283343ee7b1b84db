-- What calls leave of the passes of a small manager, and that the three can be given back.
use Rattle.std.proofs.Common.{◌≡◌, ◌+◌, ◌∙◌, ℕ, List, [], ◌∷◌, ◌++◌, length, nat_eq, Option, refl, sym, ap, subst, arith}
use Rattle.std.specs.Prelude.{Err, IfOk, Ok, Result}
use Rattle.block_tag.specs.declared.tag.Tag.{Tag}
use Rattle.segment_store.specs.Contents.{Pages}
use Rattle.pin_core.specs.declared.view.Content.{Content}
use Rattle.pin_core.specs.declared.view.Content.TheVariants.{Unlocked}
use Rattle.pin_core.specs.declared.view.View.{View}
use Rattle.buffer_frames.specs.Tokens.{IsPinnedFor, tokens_less}
use Rattle.backend_pass.specs.declared.errors.ReadError.{ReadError}
use Rattle.backend_pass.specs.declared.manager.Manager.{Manager}
use Rattle.backend_pass.specs.declared.pinned.Pinned.{Pinned}
use Rattle.backend_pass.specs.Locks.{ChangesLock}
use Rattle.backend_pass.specs.Managers.{AreAll, AreNewPasses, Belongs, IsNewPass, first_in}
use Rattle.backend_pass.specs.Passes.{KeepsCallers, KeepsLocks, KeepsPass, PassState, SameButTorn, SamePass}
use Rattle.grid.specs.Shape.{total}
use Rattle.backend_pass.proofs.Between.{idle_kept, new_idle, new_number, number_kept, only_kept, only_pinned, only_relocked}
use Rattle.backend_pass.proofs.Joining.{first_here, first_past}
use Rattle.manager_bench.specs.Bench.{IsHolding, IsFree}

-- a list of three, from its end
length_three : (xs : List PassState) (a b c : PassState) → length (((xs ++ a ∷ []) ++ b ∷ []) ++ c ∷ []) ≡ length xs + 3
length_three [] a b c = refl
length_three (x ∷ xs) a b c = let e = length_three xs a b c in omega arith

three : (xs : List PassState) (a b c : PassState) (ps : List PassState) → ps ≡ ((xs ++ a ∷ []) ++ b ∷ []) ++ c ∷ [] → length ps ≡ 3 → ps ≡ a ∷ b ∷ c ∷ []
three [] a b c ps e n = e
three (x ∷ xs) a b c ps e n = absurd (let l = ap length e in let more = length_three xs a b c in omega arith)

all_parts_of : (a b c : PassState) → a.queue.known.parts + 3 ≡ 65 → b.queue.known.parts ≡ 1 → c.queue.known.parts ≡ 1 → total (λ (p : PassState). p.queue.known.parts) (c ∷ a ∷ b ∷ []) ≡ 64
unfolding total
all_parts_of a b c x y z = omega arith

module _ {L G : Type 0} (contents : L → Option Pages) (m : Manager L G) where
  new_free : (i : ℕ) (p : PassState) → IsNewPass contents m 3 i p → IsFree contents m i p
  new_free i p n = record { is = new_number contents m 3 i p n; idle = new_idle contents m 3 i p n }

  pub three_free : (ps qs rs ss : List PassState) (a b c : PassState) → AreNewPasses contents m 3 ps → ps ≡ qs ++ c ∷ [] → qs ≡ rs ++ b ∷ [] → rs ≡ ss ++ a ∷ []
      → IsFree contents m 0 a × IsFree contents m 1 b × IsFree contents m 2 c
  three_free ps qs rs ss a b c new last middle front =
      let all = three ss a b c ps (last ∙ ap (λ (l : List PassState). l ++ c ∷ []) (middle ∙ ap (λ (l : List PassState). l ++ b ∷ []) front)) new.counted in
      let each = subst (AreNewPasses contents m 3) all new in
      (new_free 0 a (each.each 0 a refl), new_free 1 b (each.each 1 b refl), new_free 2 c (each.each 2 c refl))

  -- the three, in the order in which a bench closes them
  pub all_three : (ps : List PassState) (a b c : PassState) → ps ≡ c ∷ a ∷ b ∷ [] → IsFree contents m 0 a → IsFree contents m 1 b → IsFree contents m 2 c → AreAll m ps
  all_three ps a b c is x y z =
      let first : first_in (c ∷ a ∷ b ∷ []) ≡ a.view = first_past c (a ∷ b ∷ []) (ap (λ (n : ℕ). nat_eq n 0) z.is.number) ∙ first_here a (b ∷ []) (ap (λ (n : ℕ). nat_eq n 0) x.is.number) in
      subst (AreAll m) (sym is) record {
        nonempty = omega arith;
        counted = sym (ap (λ (v : View). v.next) first ∙ x.is.next refl);
        joined = ap (λ (v : View). v.joined) first ∙ x.is.joined;
        spent = ((z.idle.belongs.table, z.idle.spent, ((x.idle.belongs.table, x.idle.spent, ((y.idle.belongs.table, y.idle.spent, tt))))));
        fronts = (z.idle.belongs.front, (x.idle.belongs.front, (y.idle.belongs.front, tt)));
        queues = (z.idle.belongs.queue, (x.idle.belongs.queue, (y.idle.belongs.queue, tt)));
        parts = all_parts_of a b c (x.is.rest refl) (y.is.part (λ none. absurd (omega arith))) (z.is.part (λ none. absurd (omega arith)));
      }

  -- a call that leaves tokens and locks as they were
  pub free_kept : (i : ℕ) (p q : PassState) → IsFree contents m i p → Belongs contents m q → SamePass p q → q.tokens ≡ p.tokens → KeepsLocks p q → IsFree contents m i q
  free_kept i p q free b s tokens locks = record { is = number_kept 3 i p q free.is s.keeps; idle = idle_kept contents m p q free.idle b tokens locks }

  -- a call that keeps what callers have of the pass
  pub free_on : (i : ℕ) (p q : PassState) → IsFree contents m i p → Belongs contents m q → KeepsCallers p q → IsFree contents m i q
  free_on i p q free b k = record { is = number_kept 3 i p q free.is k.keeps; idle = idle_kept contents m p q free.idle b k.tokens k.locks }

  -- a block that is read is pinned
  pub holds_read : (tag : Tag) (i : ℕ) (p q : PassState) (r : Result Pinned ReadError) → IsFree contents m i p → Belongs contents m q → SamePass p q → KeepsLocks p q
      → IfOk r (λ x. x.tag ≡ tag) → IfOk r (λ x. IsPinnedFor tag x.frame q.tokens) → IfOk r (λ x. tokens_less x.frame q.tokens ≡ p.tokens) → IfOk r (λ x. IsHolding contents Unlocked x m i q)
  holds_read tag i p q (Ok x) free b s locks same token back = record { is = number_kept 3 i p q free.is s.keeps; only = only_pinned contents m tag x p q free.idle same b token back locks }
  holds_read tag i p q (Err why) free b s locks same token back = tt

  -- a call that keeps tokens and locks
  holds_kept : (lock : Content) (pinned : Pinned) (i : ℕ) (p q : PassState) → IsHolding contents lock pinned m i p → Belongs contents m q → KeepsPass p q → q.tokens ≡ p.tokens → KeepsLocks p q → IsHolding contents lock pinned m i q
  holds_kept lock pinned i p q o b k tokens locks = record { is = number_kept 3 i p q o.is k; only = only_kept contents m lock pinned p q o.only b tokens locks }

  pub holds_on : (lock : Content) (pinned : Pinned) (i : ℕ) (p q : PassState) → IsHolding contents lock pinned m i p → Belongs contents m q → SamePass p q → q.tokens ≡ p.tokens → KeepsLocks p q → IsHolding contents lock pinned m i q
  holds_on lock pinned i p q o b s tokens locks = holds_kept lock pinned i p q o b s.keeps tokens locks

  -- a put
  pub holds_put : (lock : Content) (pinned : Pinned) (i : ℕ) (p q : PassState) → IsHolding contents lock pinned m i p → Belongs contents m q → SameButTorn p q → q.tokens ≡ p.tokens → KeepsLocks p q → IsHolding contents lock pinned m i q
  holds_put lock pinned i p q o b s tokens locks = holds_kept lock pinned i p q o b s.keeps tokens locks

  -- a call that changes the lock of the frame alone
  pub holds_relocked : (lock : Content) (pinned given : Pinned) (i : ℕ) (p q : PassState) {before : Content}
      → IsHolding contents before pinned m i p → given ≡ pinned → Belongs contents m q → KeepsPass p q → q.tokens ≡ p.tokens → ChangesLock lock pinned.frame p q → IsHolding contents lock given m i q
  holds_relocked lock pinned given i p q o e b s tokens changes = record { is = number_kept 3 i p q o.is s; only = only_relocked contents m lock pinned given p q o.only e b tokens changes }
