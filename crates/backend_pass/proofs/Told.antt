-- Passes before and after they published: they differ in that alone.
use Rattle.std.proofs.Common.{◌≡◌, ℕ, zero, suc, ◌+◌, ◌<◌, ◌≤◌, Bool, true, false, cond, List, [], ◌∷◌, ◌++◌, length, map, get_or, set, refl, sym, ap, ◌∙◌, subst, arith}
use mathlib.Core.Option.{some, some-injective, some-ne-none}
use lib.ListN.{get_elem?}
use Rattle.grid.specs.Shape.{total}
use Rattle.atomic_table.specs.Seated.{TableId}
use Rattle.pin_core.specs.declared.view.Call.{Call}
use Rattle.pin_core.specs.declared.view.FailedCalls.{FailedCalls}
use Rattle.pin_core.specs.declared.view.View.{View}
use Rattle.pin_core.specs.State.{joined_view, sum_of_met}
use Rattle.history_core.specs.Log.{Change, writes_in}
use Rattle.history_core.specs.History.{IsHistory}
use Rattle.history_core.specs.State.{State}
use Rattle.clock_sweep.specs.FreeFrames.{times}
use Rattle.table_rule.specs.declared.opening.Opening.{Opening}
use Rattle.table_rule.specs.Shows.{Devices}
use Rattle.frame_table.specs.Seats.{base_of}
use Rattle.io_counts.specs.Additions.{io_counters}
use Rattle.io_counts.specs.Sums.{io_sum}
use Rattle.backend_pass.specs.declared.manager.Manager.{Manager}
use Rattle.backend_pass.specs.Closing.{ClosesAll, ClosesPass, EachPass, NothingPut, NothingWritten, PassNotes, PassTore, but_published, calls_in_order, calls_of_passes, joined_views, met_by_passes, pushes, takes}
use Rattle.backend_pass.specs.Counts.{io_in_all}
use Rattle.backend_pass.specs.Managers.{AreAll, AreFronted, AreSpent, HaveQueues, first_in, is_first, others_in}
use Rattle.backend_pass.specs.Passes.{HasPublished, PassState}
use Rattle.backend_pass.proofs.AddedUp.{added_by_all}

-- all of a pass but what its view published, and the steps by which it did
abbrev pub but_told : PassState → PassState
but_told p = record p { view = but_published p.view }

-- what is at a place
at_told : (ps : List PassState) (i : ℕ) (p : PassState) → get_elem? ps i ≡ some p → get_elem? (map but_told ps) i ≡ some (but_told p)
at_told [] i p e = absurd (some-ne-none p (sym e))
at_told (x ∷ xs) zero p e = ap (λ (y : PassState). some (but_told y)) (some-injective x p e)
at_told (x ∷ xs) (suc i) p e = at_told xs i p e

of_told : (ps : List PassState) (i : ℕ) (z : PassState) → get_elem? (map but_told ps) i ≡ some z → (p : PassState) × (get_elem? ps i ≡ some p) × (but_told p ≡ z)
of_told [] i z e = absurd (some-ne-none z (sym e))
of_told (x ∷ xs) zero z e = (x, refl, some-injective (but_told x) z e)
of_told (x ∷ xs) (suc i) z e = of_told xs i z e

-- the same pass in the other list
pub twin : (ps qs : List PassState) → map but_told qs ≡ map but_told ps → (i : ℕ) (q : PassState) → get_elem? qs i ≡ some q → (p : PassState) × (get_elem? ps i ≡ some p) × (but_told p ≡ but_told q)
twin ps qs same i q at = of_told ps i (but_told q) (ap (λ (l : List PassState). get_elem? l i) (sym same) ∙ at_told qs i q at)

-- one pass publishes
pub set_told : (qs : List PassState) (n : ℕ) (d new : PassState) → but_told new ≡ but_told (get_or qs n d) → map but_told (set qs n new) ≡ map but_told qs
set_told [] n d new same = refl
set_told (x ∷ xs) zero d new same = ap (λ (y : PassState). y ∷ map but_told xs) same
set_told (x ∷ xs) (suc n) d new same = ap (λ (l : List PassState). but_told x ∷ l) (set_told xs n d new same)

-- what is told of passes, but for what they published, is told of them before that
through : {A : Type 0} (F : List PassState → A) → ((l : List PassState) → F (map but_told l) ≡ F l) → (ps qs : List PassState) → map but_told qs ≡ map but_told ps → F qs ≡ F ps
through F keeps ps qs same = sym (keeps qs) ∙ ap F same ∙ keeps ps

length_told : (ps : List PassState) → length (map but_told ps) ≡ length ps
length_told [] = refl
length_told (p ∷ ps) = ap suc (length_told ps)

pub as_long : (ps qs : List PassState) → map but_told qs ≡ map but_told ps → length qs ≡ length ps
as_long ps qs same = through (λ (l : List PassState). length l) length_told ps qs same

calls_told : (ps : List PassState) → calls_of_passes (map but_told ps) ≡ calls_of_passes ps
calls_told [] = refl
calls_told (p ∷ ps) = ap (λ (l : List Call). p.view.calls ++ l) (calls_told ps)

met_told : (ps : List PassState) → met_by_passes (map but_told ps) ≡ met_by_passes ps
met_told [] = refl
met_told (p ∷ ps) = ap (sum_of_met p.view.met) (met_told ps)

io_told : (ps : List PassState) → io_in_all (map but_told ps) ≡ io_in_all ps
io_told [] = refl
io_told (p ∷ ps) = ap (io_sum p.io) (io_told ps)

pub io_same : (ps qs : List PassState) → map but_told qs ≡ map but_told ps → io_in_all qs ≡ io_in_all ps
io_same ps qs same = through io_in_all io_told ps qs same

total_told : (n : PassState → ℕ) → ((p : PassState) → n (but_told p) ≡ n p) → (ps : List PassState) → total n (map but_told ps) ≡ total n ps
unfolding total
total_told n keeps [] = refl
total_told n keeps (p ∷ ps) = let here = keeps p in let later = total_told n keeps ps in omega arith

-- the first pass and the others
first_by : (b : Bool) (v w x : View) → w ≡ but_published x → cond b (but_published v) w ≡ but_published (cond b v x)
first_by true v w x e = refl
first_by false v w x e = e

first_told : (ps : List PassState) → first_in (map but_told ps) ≡ but_published (first_in ps)
first_told [] = refl
first_told (p ∷ ps) = first_by (is_first p) p.view (first_in (map but_told ps)) (first_in ps) (first_told ps)

others_by : (b : Bool) (p : PassState) (ps l m : List PassState) → l ≡ map but_told m → cond b (map but_told ps) (but_told p ∷ l) ≡ map but_told (cond b ps (p ∷ m))
others_by true p ps l m e = refl
others_by false p ps l m e = ap (λ (x : List PassState). but_told p ∷ x) e

others_told : (ps : List PassState) → others_in (map but_told ps) ≡ map but_told (others_in ps)
others_told [] = refl
others_told (p ∷ ps) = others_by (is_first p) p ps (others_in (map but_told ps)) (others_in ps) (others_told ps)

joined_told : (v : View) (ps : List PassState) → but_published (joined_views (but_published v) (map but_told ps)) ≡ but_published (joined_views v ps)
joined_told v [] = refl
joined_told v (p ∷ ps) = joined_told (joined_view v p.view) ps

-- the view that takes in all
abbrev joined_all : List PassState → View
joined_all ps = but_published (joined_views (first_in ps) (others_in ps))

all_joined_told : (ps : List PassState) → joined_all (map but_told ps) ≡ joined_all ps
all_joined_told ps = ap (λ (v : View). but_published (joined_views v (others_in (map but_told ps)))) (first_told ps) ∙ ap (λ (l : List PassState). but_published (joined_views (but_published (first_in ps)) l)) (others_told ps) ∙ joined_told (first_in ps) (others_in ps)

order_told : (ps : List PassState) → calls_in_order (map but_told ps) ≡ calls_in_order ps
order_told ps = ap (λ (v : View). v.calls ++ calls_of_passes (others_in (map but_told ps))) (first_told ps) ∙ ap (λ (l : List PassState). (first_in ps).calls ++ calls_of_passes l) (others_told ps) ∙ ap (λ (l : List Call). (first_in ps).calls ++ l) (calls_told (others_in ps))

-- none has a token, their fronts, and their passes of the free list
spent_told : (t : TableId) (ps : List PassState) → AreSpent t ps → AreSpent t (map but_told ps)
spent_told t [] s = tt
spent_told t (p ∷ ps) s = (s.0, s.1, spent_told t ps s.2)

told_spent : (t : TableId) (ps : List PassState) → AreSpent t (map but_told ps) → AreSpent t ps
told_spent t [] s = tt
told_spent t (p ∷ ps) s = (s.0, s.1, told_spent t ps s.2)

fronted_told : (base : ℕ) (ps : List PassState) → AreFronted base ps → AreFronted base (map but_told ps)
fronted_told base [] s = tt
fronted_told base (p ∷ ps) s = (s.0, fronted_told base ps s.1)

told_fronted : (base : ℕ) (ps : List PassState) → AreFronted base (map but_told ps) → AreFronted base ps
told_fronted base [] s = tt
told_fronted base (p ∷ ps) s = (s.0, told_fronted base ps s.1)

module _ {L G : Type 0} (m : Manager L G) where
  queues_told : (ps : List PassState) → HaveQueues m ps → HaveQueues m (map but_told ps)
  queues_told [] s = tt
  queues_told (p ∷ ps) s = (s.0, queues_told ps s.1)

  told_queues : (ps : List PassState) → HaveQueues m (map but_told ps) → HaveQueues m ps
  told_queues [] s = tt
  told_queues (p ∷ ps) s = (s.0, told_queues ps s.1)

  -- they are all passes of the manager, too
  pub all_told : (ps qs : List PassState) → map but_told qs ≡ map but_told ps → AreAll m ps → AreAll m qs
  all_told ps qs same a =
      let long = as_long ps qs same in
      let table = m.table.table.shared.table_id in
      let base = base_of m.table in record {
        nonempty = let some = a.nonempty in omega arith;
        counted = long ∙ a.counted ∙ sym (through (λ (l : List PassState). (first_in l).next) (λ l. ap (λ (v : View). v.next) (first_told l)) ps qs same);
        joined = through (λ (l : List PassState). (first_in l).joined) (λ l. ap (λ (v : View). v.joined) (first_told l)) ps qs same ∙ a.joined;
        spent = told_spent table qs (subst (AreSpent table) (sym same) (spent_told table ps a.spent));
        fronts = told_fronted base qs (subst (AreFronted base) (sym same) (fronted_told base ps a.fronts));
        queues = told_queues qs (subst (HaveQueues m) (sym same) (queues_told ps a.queues));
        parts = through (λ (l : List PassState). total (λ (p : PassState). p.queue.known.parts) l) (total_told (λ (p : PassState). p.queue.known.parts) (λ p. refl)) ps qs same ∙ a.parts;
      }

-- what holds of the devices for a pass
closes_told : (s : State) (p : PassState) → ClosesPass s p → ClosesPass s (but_told p)
closes_told s p c = record { front = c.front; within = c.within; seen = c.seen; flushed = c.flushed; durable = c.durable; down = c.down; swept = c.swept }

told_closes : (s : State) (p : PassState) → ClosesPass s (but_told p) → ClosesPass s p
told_closes s p c = record { front = c.front; within = c.within; seen = c.seen; flushed = c.flushed; durable = c.durable; down = c.down; swept = c.swept }

module _ (ps qs : List PassState) (same : map but_told qs ≡ map but_told ps) where
  met_same : met_by_passes qs ≡ met_by_passes ps
  met_same = through met_by_passes met_told ps qs same

  nothing_written : (s : State) → NothingWritten s qs → NothingWritten s ps
  nothing_written s n = record {
    clean = n.clean;
    unfailed = n.unfailed;
    met = ap (λ (m : FailedCalls). m.writes) (sym met_same) ∙ n.met;
    output = λ i p at. let t = twin qs ps (sym same) i p at in ap (λ (q : PassState). q.view.had_output) (sym t.2) ∙ n.output i t.0 t.1;
  }

  nothing_put : (s : State) → NothingPut s qs → NothingPut s ps
  nothing_put s n = record {
    entries = n.entries;
    end = n.end;
    fronts = λ i p at. let t = twin qs ps (sym same) i p at in ap (λ (q : PassState). q.view.front) (sym t.2) ∙ n.fronts i t.0 t.1;
  }

  tore : (c : Change) → PassTore qs c → PassTore ps c
  tore c t = let w = twin ps qs same t.0 t.2 t.4 in (t.0, t.1, w.0, t.3, w.1, ap (λ (p : PassState). get_elem? p.view.torn t.1) w.2 ∙ t.5, t.6)

  notes : (tag : ℕ) → PassNotes qs tag → PassNotes ps tag
  notes tag t = let w = twin ps qs same t.0 t.2 t.3 in (t.0, t.1, w.0, w.1, ap (λ (p : PassState). get_elem? p.view.unentered t.1) w.2 ∙ t.4)

  each : (s : State) → EachPass (ClosesPass s) qs → EachPass (ClosesPass s) ps
  each s c i p at = let t = twin qs ps (sym same) i p at in told_closes s p (subst (ClosesPass s) t.2 (closes_told s t.0 (c i t.0 t.1)))

  takes_same : (f : ℕ) → takes f qs ≡ takes f ps
  takes_same f = through (takes f) (total_told (λ (p : PassState). times f p.queue.known.taken) (λ p. refl)) ps qs same

  pushes_same : (f : ℕ) → pushes f qs ≡ pushes f ps
  pushes_same f = through (pushes f) (total_told (λ (p : PassState). times f p.queue.known.pushed) (λ p. refl)) ps qs same

  -- the passes that published are closed, so are those that they were before, and the counters have
  -- what these counted
  pub closes_published : {L G : Type 0} (d : Devices L G) (o : Opening L G) (lanes : List L) (log : G) → EachPass HasPublished qs → ((number : ℕ) → added_by_all ps number ≤ added_by_all qs number) → ClosesAll d o qs lanes log → (x : ClosesAll d o ps lanes log) × (io_counters x.state.counter ≡ io_in_all ps)
  closes_published d o lanes log told fewer c =
      let added : io_counters c.state.counter ≡ io_in_all ps = c.counters told ∙ io_same ps qs same in (
        record {
          state = c.state;
          laws = c.laws;
          opened = c.opened;
          view = c.view;
          first = c.first;
          joined = c.joined ∙ through joined_all all_joined_told ps qs same;
          free = c.free;
          others = c.others;
          counted = c.counted;
          lane = c.lane;
          theirs = c.theirs;
          covered = c.covered;
          mark = c.mark;
          device = c.device;
          bytes = c.bytes;
          torn = λ rests down. tore (c.laws.rest.behind.begins rests).entry.change (c.torn rests down);
          noted = λ tag is. notes tag (c.noted tag is);
          history = subst (IsHistory c.state.known c.state.origin c.state.opened_sizes c.state.log) (through calls_in_order order_told ps qs same) c.history;
          each = each c.state c.each;
          reads_rose = λ more. c.reads_rose (subst (λ (m : FailedCalls). 0 < m.reads) (sym met_same) more);
          writes_rose = λ more. c.writes_rose (subst (λ (m : FailedCalls). 0 < m.writes) (sym met_same) more);
          logs_rose = λ more. c.logs_rose (subst (λ (m : FailedCalls). 0 < m.logs) (sym met_same) more);
          reads_met = λ q inside more. subst (λ (m : FailedCalls). 0 < m.reads) met_same (c.reads_met q inside more);
          writes_met = λ q inside more. subst (λ (m : FailedCalls). 0 < m.writes) met_same (c.writes_met q inside more);
          logs_met = λ more. subst (λ (m : FailedCalls). 0 < m.logs) met_same (c.logs_met more);
          failed_met = λ tag e. subst (λ (m : FailedCalls). 0 < m.writes) met_same (c.failed_met tag e);
          no_mark = λ none. nothing_written c.state (c.no_mark (λ i q at. let t = twin ps qs same i q at in ap (λ (p : PassState). p.view.dirtied_or_synced) (sym t.2) ∙ none i t.0 t.1));
          without_puts = λ none. nothing_put c.state (c.without_puts (λ i q at. let t = twin ps qs same i q at in ap (λ (p : PassState). writes_in p.view.calls) (sym t.2) ∙ none i t.0 t.1));
          frames = record {
            left = c.frames.left;
            inside = c.frames.inside;
            each = λ f below. ap (λ (n : ℕ). n + times f c.frames.left) (sym (takes_same f)) ∙ c.frames.each f below ∙ ap (λ (n : ℕ). 1 + n) (pushes_same f);
          };
          counters = λ published. added;
          least = λ number. let had = fewer number in let all : added_by_all qs number ≤ c.state.counter number = c.least number in let both : added_by_all ps number ≤ c.state.counter number = omega arith in both;
        },
        added,
      )
