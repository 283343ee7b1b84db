-- Of new passes none noted a block as unentered, if each that worked noted none: redo excepts none. And a log can be redone on the lanes that a close gives back.
use Rattle.std.proofs.Common.{◌≡◌, ◌∙◌, ◌+◌, ◌<◌, ◌≤◌, ℕ, Bool, true, false, List, set, [], length, map, slice_index_or, Option, Result, Err, refl, sym, ap, subst, arith}
use mathlib.Core.Logic.{dite, ◌⊎◌, ⊎_elim}
use mathlib.Core.Option.{some, some-ne-none}
use native.Mathlib.Decide.{ℕ_discrete}
use lib.ListN.{get_elem?}
use Rattle.std.specs.Global.{Vec}
use Rattle.std.proofs.lemmas.List.{get_or-set_other, get_or-set_same}
use Rattle.block_tag.specs.declared.catalogue.RelEntry.{RelEntry}
use Rattle.segment_store.specs.Contents.{Pages}
use Rattle.segment_store.specs.Lanes.{HoldTheirs}
use Rattle.pin_core.specs.declared.view.View.{View}
use Rattle.history_core.specs.Crashes.{IsExcepted}
use Rattle.history_core.specs.Laws.{Laws}
use Rattle.history_core.specs.Log.{cell}
use Rattle.history_core.specs.State.{State}
use Rattle.history_core.specs.Unentered.{IsUnentered}
use Rattle.history_core.proofs.Crashes.{crashes_redo}
use Rattle.table_rule.specs.declared.config.Config.{Config}
use Rattle.table_rule.specs.Shows.{Devices}
use Rattle.table_rule.proofs.Opens.{length_low, there_at}
use Rattle.wal_flush.specs.declared.inserts.InsertError.{InsertError}
use Rattle.wal_flush.specs.declared.inserts.InsertError.TheVariants.{LogFull, LogDown, LogFault}
use Rattle.buffer_frames.specs.Puts.{IsDoneOrFull}
use Rattle.backend_pass.specs.declared.manager.Manager.{Manager}
use Rattle.backend_pass.specs.Between.{AllReturn, Returns}
use Rattle.backend_pass.specs.Closing.{ClosesAll, ClosesPass, PassNotes}
use Rattle.backend_pass.specs.Managers.{AreNewPasses, OpenedWith}
use Rattle.backend_pass.specs.Passes.{KeepsPass, PassState}
use Rattle.backend_pass.proofs.Between.{new_idle_each, set_back}
use Rattle.backend_pass.proofs.Keeping.{pass_none}
use Rattle.backend_pass.proofs.Standing.{standing_or}
use Rattle.library_example.specs.Passes.{AllNoteNone, ClosesReturned, LogTakesMore, NotesNone, RedoesEach, SawLogTakesMore}

-- what a pass saw of the log at last, it had seen before
pub saw_before : (p q : PassState) → KeepsPass p q → SawLogTakesMore q → SawLogTakesMore p
saw_before p q k saw = record {
  up = of_flag p.view.saw_down refl;
  room = (let room = saw.room in let rises = k.advances.end_seen in omega arith);
}
  where
    of_flag : (b : Bool) → p.view.saw_down ≡ b → p.view.saw_down ≡ false
    of_flag false e = e
    of_flag true e = let no : true ≡ false = sym (k.advances.down e) ∙ saw.up in absurd (cc)

-- then no put of the pass was refused
pub not_refused : (p : PassState) (why : InsertError) → SawLogTakesMore p → IsDoneOrFull p.view (Err why) → ⊥
not_refused p (LogFull end) saw full = let room = saw.room in let over = full.0 in let seen = full.1 in omega arith
not_refused p (LogDown at) saw none = none
not_refused p LogFault saw none = none

-- each pass saw that of a log of which it holds at the close
saw_more : (s : State) (p : PassState) → LogTakesMore s → ClosesPass s p → SawLogTakesMore p
saw_more s p more c = record {
  up = of_flag p.view.saw_down refl;
  room = (let room = more.room in let seen = c.seen in omega arith);
}
  where
    of_flag : (b : Bool) → p.view.saw_down ≡ b → p.view.saw_down ≡ false
    of_flag false e = e
    of_flag true e = absurd (more.up (c.down e))

-- what holds of the passes of two lists, place by place, holds once one of them is replaced, if it holds of that one
pub set_each : (R : PassState → PassState → Type 0) (ps qs : List PassState) (at : ℕ) (z : PassState) → at < length qs
    → ((i : ℕ) (d : PassState) → i < length ps → R (slice_index_or ps i d) (slice_index_or qs i d))
    → ((d : PassState) → R (slice_index_or ps at d) z)
    → (i : ℕ) (d : PassState) → i < length ps → R (slice_index_or ps i d) (slice_index_or (set qs at z) i d)
set_each R ps qs at z low each last i d below = dite (ℕ_discrete i at)
    (λ e. subst (λ (j : ℕ). R (slice_index_or ps j d) (slice_index_or (set qs at z) j d)) (sym e)
    (subst (R (slice_index_or ps at d)) (sym (get_or-set_same qs at z d low)) (last d)))
    (λ n. subst (R (slice_index_or ps i d)) (sym (get_or-set_other qs at i z d n)) (each i d below))

module _ {L G : Type 0} (contents : L → Option Pages) (m : Manager L G) where
  -- of new passes the one at a place returned
  pub one_back : (n : ℕ) (ps : List PassState) (at : ℕ) (z : PassState) → AreNewPasses contents m n ps
      → ((d : PassState) → Returns contents m (slice_index_or ps at d) z)
      → AllReturn contents m ps (set ps at z)
  one_back n ps at z new back = set_back contents m ps ps at z refl
      (λ i d below. record {
        same = pass_none (slice_index_or ps i d);
        idle = new_idle_each contents m n ps new i d below;
      })
      back

  -- a new pass has noted no block as unentered
  new_unentered : (n : ℕ) (ps : List PassState) → AreNewPasses contents m n ps → (i : ℕ) (d : PassState)
      → i < length ps → (slice_index_or ps i d).view.unentered ≡ []
  new_unentered n ps new i d below = let p = there_at ps i below in
      subst (λ (x : PassState). x.view.unentered ≡ []) (sym (standing_or ps i p.0 d p.1))
      (ap (λ (v : View). v.unentered) (new.each i p.0 p.1).view)

  -- and none has, if each noted none since
  none_noted : (n : ℕ) (ps qs : List PassState) → AreNewPasses contents m n ps → length qs ≡ length ps
      → ((i : ℕ) (d : PassState) → i < length ps → NotesNone (slice_index_or ps i d) (slice_index_or qs i d))
      → (tag : ℕ) → PassNotes qs tag → ⊥
  none_noted n ps qs new counted worked tag (i, k, q, there, noted) =
      absurd (some-ne-none tag (sym (subst (λ (l : List ℕ). get_elem? l k ≡ some tag) unentered noted)))
    where
      below : i < length ps
      below = subst (λ (l : ℕ). i < l) counted (length_low qs i q there)

      unentered : q.view.unentered ≡ []
      unentered = subst (λ (x : PassState). x.view.unentered ≡ []) (standing_or qs i q q there)
          (worked i q below ∙ new_unentered n ps new i q below)

-- redo excepts no block, if no pass noted one as unentered
redoes_each : (s : State) → Laws s → ((tag : ℕ) → IsUnentered s tag → ⊥) → RedoesEach s
redoes_each s laws none pages es crashed tag can = ⊎_elim
    (λ (same : cell pages es tag ≡ cell s.origin es tag). same)
    (λ (x : IsExcepted s es tag × IsUnentered s tag). absurd (none tag x.1))
    (crashes_redo s laws pages es crashed tag can)

module _ {L G : Type 0} (d : Devices L G) (m : Manager L G) (n : ℕ) (ps qs : List PassState) (lanes : List L) (log : G)
    (new : AreNewPasses d.contents m n ps) (c : ClosesReturned d m ps qs lanes log) where
  pub redoes_all : ((i : ℕ) (e : PassState) → i < length ps → NotesNone (slice_index_or ps i e) (slice_index_or qs i e))
      → RedoesEach c.closed.state
  redoes_all none = redoes_each c.closed.state c.closed.laws
      (λ tag is. none_noted d.contents m n ps qs new c.counted none tag (c.closed.noted tag is))

  pub redoes_more : AllNoteNone ps qs → LogTakesMore c.closed.state → RedoesEach c.closed.state
  redoes_more none more = redoes_all (λ i e below. none i e below (saw i e below))
    where
      saw : (i : ℕ) (e : PassState) → i < length ps → SawLogTakesMore (slice_index_or qs i e)
      saw i e below =
          let q = there_at qs i (subst (λ (l : ℕ). i < l) (sym c.counted) below) in
          subst SawLogTakesMore (sym (standing_or qs i q.0 e q.1)) (saw_more c.closed.state q.0 more (c.closed.each i q.0 q.1))

-- the lanes that a close gives back are what `recover` asks for, if those were that the manager was started with
pub can_recover : {L G : Type 0} (d : Devices L G) (m : Manager L G) (config : Config) (catalog : List RelEntry) (lanes : Vec L) (log : G) (base : ℕ)
    → OpenedWith config catalog lanes log base m → 0 < config.lanes → HoldTheirs (map d.contents lanes.items)
    → (qs : List PassState) (given : List L) (end : G) → ClosesAll d m.table.table.shared.key qs given end
    → (0 < length given) × HoldTheirs (map d.contents given)
can_recover {L = L} d m config catalog lanes log base opened positive theirs qs given end closed = (
  subst (λ (n : ℕ). 0 < n) (sym (closed.counted ∙ ap (λ (c : Config). c.lanes) opened.config_is)) positive,
  closed.theirs (subst (λ (ls : Vec L). HoldTheirs (map d.contents ls.items)) (sym opened.lanes_are) theirs),
)
