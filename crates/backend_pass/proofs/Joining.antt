-- All passes end, the first one last.
use Rattle.std.proofs.Common.{◌≡◌, ◌<◌, ◌≤◌, ◌+◌, ℕ, zero, suc, true, false, cond, List, [], ◌∷◌, ◌++◌, append_assoc, append-nil, take, drop, length, get_or, refl, sym, ap, ◌∙◌, subst, arith}
use Rattle.std.proofs.lemmas.Bool.{or_left}
use mathlib.Core.Option.{some}
use lib.ListN.{get_elem?}
use Rattle.atomic_table.specs.Seated.{TableId}
use Rattle.pin_core.specs.declared.view.FailedCalls.{FailedCalls}
use Rattle.pin_core.specs.declared.view.View.{View}
use Rattle.pin_core.specs.declared.view.LaneHold.{LaneHold}
use Rattle.pin_core.specs.declared.view.LogHold.{LogHold}
use Rattle.pin_core.specs.State.{emptied_view, joined_view, sum_of_met, no_partition, idle, no_lane}
use Rattle.pin_core.specs.Steps.{HoldsNothing, HoldsNothingAt}
use Rattle.buffer_frames.specs.Tokens.{no_tokens}
use Rattle.backend_pass.specs.Passes.{PassState}
use Rattle.history_core.specs.Log.{IsFront}
use Rattle.backend_pass.specs.Managers.{AreFronted, AreOthers, AreSpent, IsFirstAt, first_in, is_first, others_in}
use Rattle.backend_pass.specs.Closing.{calls_of_passes, joined_views, met_by_passes, torn_of_passes, unentered_of_passes}
use Rattle.pin_core.specs.declared.view.JoinedCheckpoint.{JoinedCheckpoint}
use Rattle.grid.proofs.Lists.{at_longer}

-- the first pass of a list
pub first_here : (p : PassState) (ps : List PassState) → is_first p ≡ true → first_in (p ∷ ps) ≡ p.view
first_here p ps e = ap (λ b. cond b p.view (first_in ps)) e

pub first_past : (p : PassState) (ps : List PassState) → is_first p ≡ false → first_in (p ∷ ps) ≡ first_in ps
first_past p ps e = ap (λ b. cond b p.view (first_in ps)) e

pub others_here : (p : PassState) (ps : List PassState) → is_first p ≡ true → others_in (p ∷ ps) ≡ ps
others_here p ps e = ap (λ b. cond b ps (p ∷ others_in ps)) e

pub others_past : (p : PassState) (ps : List PassState) → is_first p ≡ false → others_in (p ∷ ps) ≡ p ∷ others_in ps
others_past p ps e = ap (λ b. cond b ps (p ∷ others_in ps)) e

pub first_none : (ps : List PassState) → AreOthers ps → first_in ps ≡ emptied_view
first_none [] o = refl
first_none (p ∷ ps) o = first_past p ps o.0 ∙ first_none ps o.1

pub others_more : (ps : List PassState) (i : ℕ) (d : PassState) → i < length ps → is_first (get_or ps i d) ≡ false → AreOthers (take i ps) → AreOthers (take (suc i) ps)
others_more [] i d inside n o = absurd (omega arith)
others_more (p ∷ ps) zero d inside n o = (n, tt)
others_more (p ∷ ps) (suc i) d inside n o = (o.0, others_more ps i d (omega arith) n o.1)

pub at_later : (i : ℕ) (p : PassState) (ps : List PassState) → IsFirstAt (suc i) (p ∷ ps) → IsFirstAt i ps
at_later i p ps s = let inside = s.inside in record { inside = omega arith; before = s.before.1; here = λ q e. s.here q e }

pub first_standing : (ps : List PassState) (i : ℕ) (q : PassState) → IsFirstAt i ps → q ≡ get_or ps i q → first_in ps ≡ q.view
first_standing [] i q s e = let inside = s.inside in absurd (omega arith)
first_standing (p ∷ ps) zero q s e = first_here p ps (s.here p refl) ∙ ap (λ (x : PassState). x.view) (sym e)
first_standing (p ∷ ps) (suc i) q s e = first_past p ps s.before.0 ∙ first_standing ps i q (at_later i p ps s) e

pub others_standing : (ps : List PassState) (i : ℕ) → IsFirstAt i ps → take i ps ++ drop (suc i) ps ≡ others_in ps
others_standing [] i s = let inside = s.inside in absurd (omega arith)
others_standing (p ∷ ps) zero s = sym (others_here p ps (s.here p refl))
others_standing (p ∷ ps) (suc i) s = ap (λ (l : List PassState). p ∷ l) (others_standing ps i (at_later i p ps s)) ∙ sym (others_past p ps s.before.0)

pub others_fewer : (ps : List PassState) (i : ℕ) → IsFirstAt i ps → length (others_in ps) + 1 ≡ length ps
others_fewer [] i s = let inside = s.inside in absurd (omega arith)
others_fewer (p ∷ ps) zero s = let a = ap (λ (l : List PassState). length l) (others_here p ps (s.here p refl)) in omega arith
others_fewer (p ∷ ps) (suc i) s = let a = ap (λ (l : List PassState). length l) (others_past p ps s.before.0) in let b = others_fewer ps i (at_later i p ps s) in omega arith

-- passes without tokens
pub spent_at : (t : TableId) (ps : List PassState) (i : ℕ) (q : PassState) → i < length ps → q ≡ get_or ps i q → AreSpent t ps → (q.table ≡ t) × (q.tokens ≡ no_tokens)
spent_at t [] i q inside e s = absurd (omega arith)
spent_at t (p ∷ ps) zero q inside e s = (ap (λ (x : PassState). x.table) e ∙ s.0, ap (λ (x : PassState). x.tokens) e ∙ s.1)
spent_at t (p ∷ ps) (suc i) q inside e s = spent_at t ps i q (omega arith) e s.2

pub spent_others : (t : TableId) (ps : List PassState) (i : ℕ) → IsFirstAt i ps → AreSpent t ps → AreSpent t (others_in ps)
spent_others t [] i s a = a
spent_others t (p ∷ ps) zero s a = subst (AreSpent t) (sym (others_here p ps (s.here p refl))) a.2
spent_others t (p ∷ ps) (suc i) s a = subst (AreSpent t) (sym (others_past p ps s.before.0)) (a.0, a.1, spent_others t ps i (at_later i p ps s) a.2)

-- what a view keeps as it takes in others
pub record Joins (v w : View) (ps : List PassState) : Type 0 where
  pub live : w.emptied ≡ v.emptied
  pub links : w.links ≡ v.links
  pub partitions : w.partitions ≡ v.partitions
  pub lanes : w.lanes ≡ v.lanes
  pub sizes : w.sizes ≡ v.sizes
  pub log : w.log ≡ v.log
  pub next : w.next ≡ v.next
  pub joined : w.joined ≡ v.joined + length ps
  pub calls : w.calls ≡ v.calls ++ calls_of_passes ps
  pub met : w.met ≡ sum_of_met v.met (met_by_passes ps)
  pub torn : w.torn ≡ v.torn ++ torn_of_passes ps
  pub unentered : w.unentered ≡ v.unentered ++ unentered_of_passes ps
  pub front : v.front ≤ w.front
  pub seen : v.end_seen ≤ w.end_seen
  pub flushed : v.flushed ≤ w.flushed
  pub down : v.saw_down ≡ true → w.saw_down ≡ true
  pub output : v.had_output ≡ true → w.had_output ≡ true
  pub kept : (k : ℕ) (c : JoinedCheckpoint) → get_elem? v.joined_checkpoints k ≡ some c → (j : ℕ) × (get_elem? w.joined_checkpoints j ≡ some c)

met_sum : (a b c : FailedCalls) → sum_of_met (sum_of_met a b) c ≡ sum_of_met a (sum_of_met b c)
met_sum a b c = met_same (sum_of_met (sum_of_met a b) c) (sum_of_met a (sum_of_met b c)) (omega arith) (omega arith) (omega arith)
  where
    met_same : (x y : FailedCalls) → x.reads ≡ y.reads → x.writes ≡ y.writes → x.logs ≡ y.logs → x ≡ y
    met_same x y p q r k = record { reads = p k; writes = q k; logs = r k }

met_none : (a : FailedCalls) → a ≡ sum_of_met a (record { reads = 0; writes = 0; logs = 0 })
met_none a = met_same a (sum_of_met a (record { reads = 0; writes = 0; logs = 0 })) (omega arith) (omega arith) (omega arith)
  where
    met_same : (x y : FailedCalls) → x.reads ≡ y.reads → x.writes ≡ y.writes → x.logs ≡ y.logs → x ≡ y
    met_same x y p q r k = record { reads = p k; writes = q k; logs = r k }

pub joins : (v : View) (ps : List PassState) → Joins v (joined_views v ps) ps
joins v [] = record {
  live = refl;
  links = refl;
  partitions = refl;
  lanes = refl;
  sizes = refl;
  log = refl;
  next = refl;
  joined = omega arith;
  calls = sym (append-nil v.calls);
  met = met_none v.met;
  torn = sym (append-nil v.torn);
  unentered = sym (append-nil v.unentered);
  front = omega arith;
  seen = omega arith;
  flushed = omega arith;
  down = λ e. e;
  output = λ e. e;
  kept = λ k c e. (k, e);
}
joins v (p ∷ ps) = let r = joins (joined_view v p.view) ps in record {
  live = r.live;
  links = r.links;
  partitions = r.partitions;
  lanes = r.lanes;
  sizes = r.sizes;
  log = r.log;
  next = r.next;
  joined = let a = r.joined in omega arith;
  calls = r.calls ∙ append_assoc v.calls p.view.calls (calls_of_passes ps);
  met = r.met ∙ met_sum v.met p.view.met (met_by_passes ps);
  torn = r.torn ∙ append_assoc v.torn p.view.torn (torn_of_passes ps);
  unentered = r.unentered
      ∙ append_assoc v.unentered p.view.unentered (unentered_of_passes ps);
  front = let a = r.front in omega arith;
  seen = let a = r.seen in omega arith;
  flushed = let a = r.flushed in omega arith;
  down = λ e. r.down (or_left v.saw_down p.view.saw_down e);
  output = λ e. r.output (or_left v.had_output p.view.had_output e);
  kept = λ k c e. r.kept k c (at_longer v.joined_checkpoints _ k c e);
}

-- the first pass takes in all others, and may close the table
pub joined_hold_nothing : (v w : View) (ps : List PassState) → Joins v w ps → HoldsNothing v → HoldsNothing w
joined_hold_nothing v w ps j h = record {
  frames = λ f. subst (λ l. HoldsNothingAt (get_or l f idle)) (sym j.links) (h.frames f);
  partitions = λ p. ap (λ l. (get_or l p no_partition).held) j.partitions ∙ h.partitions p;
  lanes = λ n. ap (λ (l : List LaneHold). (get_or l n no_lane).held) j.lanes ∙ h.lanes n;
  sizes = j.sizes ∙ h.sizes;
  log = ap (λ (l : LogHold). l.held) j.log ∙ h.log;
}

pub take_whole : {A : Type 0} (xs : List A) (n : ℕ) → length xs ≤ n → take n xs ≡ xs
take_whole [] zero e = refl
take_whole [] (suc n) e = refl
take_whole (x ∷ xs) zero e = absurd (omega arith)
take_whole (x ∷ xs) (suc n) e = ap (λ l. x ∷ l) (take_whole xs n (omega arith))

-- what holds of each pass of a list
pub spent_each : (table : TableId) (ps : List PassState) → ((i : ℕ) (p : PassState) → get_elem? ps i ≡ some p → (p.table ≡ table) × (p.tokens ≡ no_tokens)) → AreSpent table ps
spent_each table [] each = tt
spent_each table (p ∷ ps) each = let e = each 0 p refl in (e.0, e.1, spent_each table ps (λ i. each (suc i)))

pub fronted_each : (base : ℕ) (ps : List PassState) → ((i : ℕ) (p : PassState) → get_elem? ps i ≡ some p → IsFront base p.view.calls p.view.front) → AreFronted base ps
fronted_each base [] each = tt
fronted_each base (p ∷ ps) each = (each 0 p refl, fronted_each base ps (λ i. each (suc i)))
