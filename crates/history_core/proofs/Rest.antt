-- Each step keeps the law of the bytes after the log's, and so does each list of steps.
use Rattle.std.proofs.Common.{◌≡◌, ℕ, ◌+◌, Bool, true, List, [], ◌∷◌, ◌++◌, length, length-append, append-nil, None, sym, refl, ap, ◌∙◌, subst, arith, lit<}
use mathlib.Core.Option.{some}
use lib.ListN.{get_elem?}
use Rattle.pin_core.specs.declared.view.View.{View}
use Rattle.pin_core.specs.State.{Config, Page, link}
use Rattle.pin_core.specs.Tallies.{some_weight}
use Rattle.history_core.specs.Log.{Entry, Log, Change, image, ranges, resize, IsChange, MayMake, change_size, log_bytes, record_bytes}
use Rattle.history_core.specs.State.{State, Store, opening}
use Rattle.history_core.specs.Device.{LogKind, take_log, leave_log, log_out, append, fail_append, sync_log, fail_sync, log_back, see_down, LogAllowed, device_after, view_logged, appenders, log_weigh, log_shape}
use Rattle.history_core.specs.Invariant.{HistoryInvariant, written_of}
use Rattle.history_core.specs.Steps.{Event, new_entry, CanLog, AppendsRecord, aside, Step, logs, enters}
use Rattle.history_core.specs.Redo.{StartsAtBase, HasWholePage, CanFollow, RedoLaw}
use Rattle.history_core.specs.Rest.{NoneAppended, HasRest, RestLaw}
use Rattle.history_core.specs.Sound.{SoundLaw}
use Rattle.history_core.specs.TornRecords.{NotesTorn}
use Rattle.history_core.proofs.Device.{none_else, holds}
use Rattle.history_core.proofs.Logs.{bytes_longer}
use Rattle.history_core.proofs.Opening.{head_only}
use Rattle.history_core.proofs.Redo.{can_follow}
use Rattle.history_core.proofs.Stepping.{step_keeps, makes_valid}
use Rattle.history_core.proofs.TornRecords.{of_page, torn_logged, torn_kept}
use Rattle.grid.specs.Shape.{tallies}
use Rattle.grid.proofs.Lists.{at_last, set_here}
use Rattle.grid.proofs.Sums.{total-none, term_le}

-- a list to which one is appended, and nothing comes of it
none_behind : (a b : List ℕ) → a ≡ a ++ b → b ≡ []
none_behind a [] e = refl
none_behind a (x ∷ b) e = absurd (let y : length a ≡ length a + length (x ∷ b) = ap (λ (l : List ℕ). length l) e ∙ length-append a (x ∷ b) in omega arith)

-- while no record is appended and the log isn't down the device has the log's bytes
pub whole : (s : State) → HistoryInvariant s → NoneAppended s → s.device.down ≡ None → s.device.bytes ≡ log_bytes s.names s.log
whole s h none up = (h.device.columns 0 (lit< tt)).bytes (total-none (λ (v : View). log_weigh appenders v.log) s.pool.core.views (λ i v there. ap some_weight (none i v there))) up

law_of : (s : State) → HistoryInvariant s → HasRest s → RestLaw s
law_of s h x = record { behind = x; none = λ none up. none_behind (log_bytes s.names s.log) x.rest (sym (whole s h none up) ∙ x.is_bytes) }

-- nothing follows the log's bytes
nothing : (s : State) → s.device.bytes ≡ log_bytes s.names s.log → HasRest s
nothing s e = record { rest = []; is_bytes = e ∙ sym (append-nil (log_bytes s.names s.log)); begins = λ some. absurd (some refl); follows = λ some. absurd (some refl); torn = λ some down. absurd (some refl); short = omega arith }

-- what redo can do next it can do where the log and the start are the same
follows_still : (s t : State) → t.log ≡ s.log → (StartsAtBase t → StartsAtBase s) → ((tag : ℕ) → t.known tag ≡ true → s.known tag ≡ true) → (c : Change) → CanFollow s c → CanFollow t c
follows_still s t log based knows (image tag page) x = tt
follows_still s t log based knows (ranges tag spans) x = λ b known. subst (λ (l : Log). HasWholePage l.entries tag) (sym log) (x (based b) (knows tag known))
follows_still s t log based knows (resize fork old new) x = absurd x

-- the log and its device's bytes stay, and so does what is noted of failed appends
same : (s t : State) → HasRest s → (StartsAtBase t → StartsAtBase s) → ((tag : ℕ) → t.known tag ≡ true → s.known tag ≡ true) → t.device.bytes ≡ s.device.bytes → t.device.down ≡ s.device.down → ((c : Change) → NotesTorn s.pool.core.views c → NotesTorn t.pool.core.views c) → t.names ≡ s.names → t.ranges ≡ s.ranges → t.log ≡ s.log → t.end ≡ s.end → HasRest t
same s t x based knows bytes down noted names may_be log end = record {
  rest = x.rest;
  is_bytes = bytes ∙ x.is_bytes ∙ (λ j. log_bytes (sym names j) (sym log j) ++ x.rest);
  begins = λ some. let b = x.begins some in record { entry = b.entry; starts = b.starts ∙ sym end; valid = b.valid; allowed = subst (λ (may : Bool). MayMake may b.entry.change) (sym may_be) b.allowed; more = b.more; begins = b.begins ∙ (λ j. record_bytes (sym names j) b.entry) };
  follows = λ some. follows_still s t log based knows (x.begins some).entry.change (x.follows some);
  torn = λ some failed. noted (x.begins some).entry.change (x.torn some (λ up. failed (down ∙ up)));
  short = x.short;
}

-- what a backend may enter
valid_of : (s : State) (f tag : ℕ) (p : Page) (ch : Change) (v : View) → CanLog s f tag p ch v → IsChange (s.end + change_size ch) ch
valid_of s f tag p ch v a = makes_valid ch (s.end + change_size ch) tag p (link v f) (record { sound = a.right.sound; used = a.right.used; full = a.full; ends = a.ends }) a.makes

-- a step at the log
logged : (s : State) (h : HistoryInvariant s) (n : SoundLaw s) (o : RedoLaw s) (i : ℕ) (k : LogKind) (v : View) → get_elem? s.pool.core.views i ≡ some v → LogAllowed k s.device v.log → AppendsRecord k s v → HistoryInvariant (record s { pool = aside s.pool i (view_logged k v); device = device_after k s.end s.device }) → HasRest s
    → HasRest (record s { pool = aside s.pool i (view_logged k v); device = device_after k s.end s.device })
logged s h n o i take_log v there a r g x = same s _ x (λ b. b) (λ z k. k) refl refl (torn_logged s i take_log v there) refl refl refl refl
logged s h n o i leave_log v there a r g x = same s _ x (λ b. b) (λ z k. k) refl refl (torn_logged s i leave_log v there) refl refl refl refl
logged s h n o i (log_out taken) v there a r g x = same s _ x (λ b. b) (λ z k. k) refl refl (torn_logged s i (log_out taken) v there) refl refl refl refl
logged s h n o i sync_log v there a r g x = same s _ x (λ b. b) (λ z k. k) refl refl (torn_logged s i sync_log v there) refl refl refl refl
logged s h n o i (fail_sync synced faults) v there a r g x = let c = h.device.cells i v 0 there (lit< tt) in let q = h.device.columns 0 (lit< tt) in
    nothing _ (q.bytes (none_else (written_of s) s.device v.saw_down v.log (tallies log_shape s.pool.core.views 0) q c (λ k. term_le (λ (u : View). log_weigh k u.log) s.pool.core.views i v there) (holds (written_of s) s.device v.saw_down v.log c a.call.out) a.entered) a.call.up)
logged s h n o i (log_back noted) v there a r g x = same s _ x (λ b. b) (λ z k. k) refl refl (torn_logged s i (log_back noted) v there) refl refl refl refl
logged s h n o i see_down v there a r g x = same s _ x (λ b. b) (λ z k. k) refl refl (torn_logged s i see_down v there) refl refl refl refl
logged s h n o i (append f tag p bytes) v there a r g x = let w : View = view_logged (append f tag p bytes) v in
    let y = (g.device.cells i w 0 (set_here s.pool.core.views i v w there) (lit< tt)).appended bytes refl in let long = y.short in record {
      rest = bytes;
      is_bytes = y.is_bytes;
      begins = λ some. record { entry = new_entry s v.number r.0; starts = refl; valid = valid_of s f tag p r.0 v r.1; allowed = r.1.allowed; more = []; begins = append-nil bytes ∙ r.2 };
      follows = λ some. can_follow s h n o i f tag p r.0 (s.end + change_size r.0) v there r.1.inside r.1.tagged r.1.right.right r.1.makes r.1.past;
      torn = λ some failed. absurd (failed a.call.up);
      short = omega arith;
    }
logged s h n o i (fail_append f tag p bytes faults) v there a r g x = let w : View = view_logged (fail_append f tag p bytes faults) v in let c = h.device.cells i v 0 there (lit< tt) in let q = h.device.columns 0 (lit< tt) in
    let none = none_else (written_of s) s.device v.saw_down v.log (tallies log_shape s.pool.core.views 0) q c (λ k. term_le (λ (u : View). log_weigh k u.log) s.pool.core.views i v there) (holds (written_of s) s.device v.saw_down v.log c a.call.out) a.entered in record {
      rest = bytes;
      is_bytes = ap (λ (l : List ℕ). l ++ bytes) (q.bytes none a.call.up);
      begins = λ some. record { entry = new_entry s v.number r.0; starts = refl; valid = valid_of s f tag p r.0 v r.1; allowed = r.1.allowed; more = r.2.rest; begins = r.2.begins };
      follows = λ some. can_follow s h n o i f tag p r.0 (s.end + change_size r.0) v there r.1.inside r.1.tagged r.1.right.right r.1.makes r.1.past;
      torn = λ some failed. (i, length v.torn, w, record { tag = tag; page = p }, set_here s.pool.core.views i v w there, at_last v.torn (record { tag = tag; page = p }), of_page r.0 (s.end + change_size r.0) tag p (link v f) r.1.makes);
      short = a.part;
    }

behind_after : {e : Event} {s t : State} → Step e s t → HistoryInvariant s → SoundLaw s → RedoLaw s → HistoryInvariant t → HasRest s → HasRest t
behind_after (logs {s = s} i k v there live a record_is) h n o g m = logged s h n o i k v there a record_is g m
behind_after (enters {s = s} i f p ch v there live inside x) h n o g m = let e : Entry = new_entry s v.number ch in
    nothing _ (((h.device.cells i v 0 there (lit< tt)).appended (record_bytes s.names e) x.appended).is_bytes ∙ sym (bytes_longer s.names s.log e))
behind_after x h n o g m = same _ _ m (λ b. b) (λ z k. k) refl refl (torn_kept x) refl refl refl refl

pub rest_kept : {e : Event} {s t : State} → Step e s t → HistoryInvariant s → SoundLaw s → RedoLaw s → RestLaw s → RestLaw t
rest_kept {t = t} x h n o m = let g = step_keeps x h in law_of t g (behind_after x h n o g m.behind)

pub rest_open : (c : Config) (store : Store) (page : Page) → RestLaw (opening c store page)
unfolding nothing
rest_open c store page = record { behind = nothing (opening c store page) (head_only store.names c.base); none = λ none up. refl }
