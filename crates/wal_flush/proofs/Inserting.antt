-- What an insert answers, and what it leaves.
use Rattle.std.proofs.Common.{◌≡◌, ◌≢◌, ℕ, ◌+◌, ◌≤◌, false, Result, Ok, Err, List, sym, subst}
use Rattle.std.specs.Prelude.{IfOk, IfErr}
use Rattle.block_tag.specs.declared.tag.Tag.{Tag}
use Rattle.block_tag.specs.declared.catalogue.RelEntry.{RelEntry}
use Rattle.block_tag.specs.Names.{packed_tag}
use Rattle.pin_core.specs.declared.view.View.{View}
use Rattle.pin_core.specs.State.{Page, link}
use Rattle.history_core.specs.Log.{record_size}
use Rattle.history_core.specs.State.{last_position}
use Rattle.table_rule.specs.declared.turn.Turn.TheVariants.{Log}
use Rattle.frame_table.specs.Entering.{entered_link}
use Rattle.frame_table.specs.Latches.{DidTurn}
use Rattle.wal_flush.specs.declared.inserts.InsertError.{InsertError}
use Rattle.wal_flush.specs.Latched.{KeepsWork, Opens, UnderLatch, as_counted, with_torn}
use Rattle.wal_flush.specs.Inserts.{AddsTorn, EnterRefused, Enters, InsertRefused, Inserts, InsertSeesEnd, inserted_view, refused_view}
use Rattle.wal_flush.proofs.Views.{insert_view, inserted_link, inserted_torn, other_links, refused_sees, refused_torn, refused_work, unentered_view}

module _ (relations : List RelEntry) (f : ℕ) (tag : Tag) (end : ℕ) (v loaded worked w : View) (opens : Opens end v loaded) (leaves : DidTurn false Log worked w) (result : Result ℕ InsertError) where
  latched : (Work : View → View → Type 0) → Work loaded worked → UnderLatch end Work v w
  latched Work work = record { loaded = loaded; worked = worked; opens = opens; work = work; leaves = leaves }

  -- the page p was entered
  module _ (p : Page) (done : IfOk result (λ _. Enters relations f tag end p loaded worked)) where
    pub did_insert : v.front ≤ end → IfOk result (λ lsn. (lsn ≡ end + record_size) × (lsn ≤ last_position)) → IfOk result (λ lsn. Inserts relations f tag p lsn v w)
    did_insert later at = of_result result done at
      where
        of_result : (r : Result ℕ InsertError) → IfOk r (λ _. Enters relations f tag end p loaded worked) → IfOk r (λ lsn. (lsn ≡ end + record_size) × (lsn ≤ last_position)) → IfOk r (λ lsn. Inserts relations f tag p lsn v w)
        of_result (Ok lsn) work (ends, room) = record { start = end; later = later; ends = ends; room = room; work = latched (Enters relations f tag end p) work }
        of_result (Err why) work ends = ends

    pub view_inserted : v.log.held ≡ false → IfOk result (λ lsn. (lsn ≡ end + record_size) × (lsn ≤ last_position)) → IfOk result (λ lsn. w ≡ as_counted (inserted_view f (packed_tag tag) p lsn v) w)
    view_inserted free at = of_result result done at
      where
        of_result : (r : Result ℕ InsertError) → IfOk r (λ _. Enters relations f tag end p loaded worked) → IfOk r (λ lsn. (lsn ≡ end + record_size) × (lsn ≤ last_position)) → IfOk r (λ lsn. w ≡ as_counted (inserted_view f (packed_tag tag) p lsn v) w)
        of_result (Ok lsn) work (ends, room) = subst (λ (n : ℕ). w ≡ as_counted (inserted_view f (packed_tag tag) p n v) w) (sym ends) (insert_view relations f tag end p v w (latched (Enters relations f tag end p) work) free)
        of_result (Err why) work ends = ends

    pub link_inserted : v.log.held ≡ false → IfOk result (λ _. link w f ≡ entered_link p (link v f))
    link_inserted free = of_result result done
      where
        of_result : (r : Result ℕ InsertError) → IfOk r (λ _. Enters relations f tag end p loaded worked) → IfOk r (λ _. link w f ≡ entered_link p (link v f))
        of_result (Ok lsn) work = inserted_link relations f tag end p v w (latched (Enters relations f tag end p) work) free
        of_result (Err why) none = none

    pub others_stay : v.log.held ≡ false → IfOk result (λ _. (g : ℕ) → g ≢ f → link w g ≡ link v g)
    others_stay free = of_result result done
      where
        of_result : (r : Result ℕ InsertError) → IfOk r (λ _. Enters relations f tag end p loaded worked) → IfOk r (λ _. (g : ℕ) → g ≢ f → link w g ≡ link v g)
        of_result (Ok lsn) work = other_links relations f tag end p v w (latched (Enters relations f tag end p) work) free
        of_result (Err why) none = none

  -- or it was refused
  module _ (p : Page) (done : IfErr result (λ why. EnterRefused relations f tag p end why loaded worked)) where
    pub refused_insert : IfErr result (InsertRefused relations f tag p v w)
    refused_insert = of_result result done
      where
        of_result : (r : Result ℕ InsertError) → IfErr r (λ why. EnterRefused relations f tag p end why loaded worked) → IfErr r (InsertRefused relations f tag p v w)
        of_result (Ok lsn) none = none
        of_result (Err why) work = (end, latched (EnterRefused relations f tag p end why) work)

    pub view_refused : v.log.held ≡ false → IfErr result (λ why. w ≡ as_counted (refused_view why v) w)
    view_refused free = of_result result done
      where
        of_result : (r : Result ℕ InsertError) → IfErr r (λ why. EnterRefused relations f tag p end why loaded worked) → IfErr r (λ why. w ≡ as_counted (refused_view why v) w)
        of_result (Ok lsn) none = none
        of_result (Err why) work = unentered_view relations f tag p end why v w (latched (EnterRefused relations f tag p end why) work) free

-- the records that the view failed to append
pub adds_torn : (relations : List RelEntry) (f : ℕ) (tag : Tag) (end : ℕ) (v loaded worked w : View) → Opens end v loaded → DidTurn false Log worked w → (result : Result ℕ InsertError) (p q : Page) → IfOk result (λ _. Enters relations f tag end p loaded worked) → IfErr result (λ why. EnterRefused relations f tag q end why loaded worked) → AddsTorn (packed_tag tag) q result v.torn w.torn
adds_torn relations f tag end v loaded worked w opens leaves (Ok lsn) p q work none = inserted_torn relations f tag end p v w (record { loaded = loaded; worked = worked; opens = opens; work = work; leaves = leaves })
adds_torn relations f tag end v loaded worked w opens leaves (Err why) p q none work = refused_torn relations f tag q end why v w (record { loaded = loaded; worked = worked; opens = opens; work = work; leaves = leaves })

-- and then the view's work is as it was
pub work_stays : (v w : View) (result : Result ℕ InsertError) → IfErr result (λ why. w ≡ as_counted (refused_view why v) w) → IfErr result (λ _. KeepsWork (with_torn w.torn v) w)
work_stays v w (Ok lsn) none = none
work_stays v w (Err why) e = refused_work why v w e

-- the log end that it names was seen
pub seen_refused : (relations : List RelEntry) (f : ℕ) (tag : Tag) (p : Page) (v w : View) (result : Result ℕ InsertError) → IfErr result (InsertRefused relations f tag p v w) → IfErr result (λ why. InsertSeesEnd why v w)
seen_refused relations f tag p v w (Ok lsn) none = none
seen_refused relations f tag p v w (Err why) r = refused_sees relations f tag p why v w r
