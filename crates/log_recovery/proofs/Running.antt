-- The loop that redoes records, and what it leaves.
use Rattle.std.proofs.Common.{◌≡◌, ◌≢◌, inl, inr, ℕ, ◌+◌, ◌<◌, ◌≤◌, List, [], ◌∷◌, ◌++◌, append-nil, drop, length, map, get_or, set, get_or-set_same, get_or-set_other, Option, Some, None, Result, Ok, Err, sym, refl, ap, ◌∙◌, subst, ⊎_elim, arith}
use Rattle.std.specs.Prelude.{IfSome, is_some}
use Rattle.std.proofs.lemmas.Bool.{both_ways, cases_eq}
use Rattle.std.proofs.lemmas.List.{length-map}
use Rattle.std.proofs.Math.Seq.{map-set_same}
use mathlib.Core.Option.{some-ne-none}
use Rattle.block_tag.specs.Catalogue.{IsCatalogue}
use Rattle.block_tag.specs.declared.catalogue.RelEntry.{RelEntry}
use Rattle.block_tag.specs.declared.tag.Tag.{Tag}
use Rattle.segment_store.specs.Contents.{Marks, Pages, no_marks}
use Rattle.history_core.specs.Log.{AreImages, AreValid, Entry, Log, end_from, record_size}
use Rattle.history_core.specs.State.{last_position}
use Rattle.segment_store.specs.Lanes.{HoldTheirs}
use Rattle.log_recovery.specs.Records.{HasBadHead, IsLogOf, IsRecord, Reads, from_head, image_entry, too_short}
use Rattle.log_recovery.specs.Redo.{AreFirstOf, AreRedone, AreRedoneBut, FailsAt, IsEnteredBlock, IsRecovered, LeavesFirst, LeavesPart, LeavesUnsynced, MarksFirst, MarksOnly, Redoes, WritesTo}
use Rattle.log_recovery.specs.Steps.{Begins, HasNoRecord, HasRedone, HaveRedone, IsNextImage, IsSyncing, IsUnderWay, IsUpto, LeadIn, StandIn, StepsOn}
use Rattle.log_recovery.specs.declared.recovering.Redone.{Redone}
use Rattle.log_recovery.specs.declared.redo.Progress.{Progress}
use Rattle.log_recovery.proofs.Counting.{upto_more}
use Rattle.log_recovery.proofs.Marking.{marks_cleared, marks_more, marks_of_none, marks_same}
use Rattle.log_recovery.proofs.Prefix.{no_room}
use Rattle.log_recovery.proofs.Redoing.{redone_more, redone_none, redone_torn, theirs_still}
use Rattle.log_recovery.proofs.Same.{read_once}
use Rattle.log_recovery.proofs.Standing.{first_of_log, stand_first, stand_more, stand_none, stand_then}

-- ---- what is left of a source

none_still : (o p : Option (List ℕ)) → p ≡ None → is_some o ≡ is_some p → o ≡ None
none_still None p is told = refl
none_still (Some x) p is told = absurd (both_ways (is_some p) (ap is_some is) (sym told))

module _ (relations : List RelEntry) (base : ℕ) where
  pub stand_at_first : (left : Option (List ℕ)) → StandIn relations base [] left left
  stand_at_first None = refl
  stand_at_first (Some bytes) = (bytes, refl, stand_none relations base [] bytes)

  -- a record more
  pub stand_next : (es : List Entry) (left now new : Option (List ℕ)) (from : ℕ) (tag : Tag) (page : List ℕ) → from ≡ end_from base es → StandIn relations base es left now → IsNextImage relations from tag page now new → is_some new ≡ is_some now
      → StandIn relations base (es ++ image_entry from tag page ∷ []) left new
  stand_next es None now new from tag page at stands next told = none_still new now stands told
  stand_next es (Some bytes) now new from tag page at stands next told =
      let rest = stands.0 in
      let e = image_entry from tag page in
      let n : (new ≡ Some (drop record_size rest)) × ((before : List Entry) → IsRecord relations from before rest e) = subst (λ (o : Option (List ℕ)). IfSome o (λ b. (new ≡ Some (drop record_size b)) × ((before : List Entry) → IsRecord relations from before b e))) stands.1 next.stands in
      (drop record_size rest, n.0, stand_more relations base [] es bytes rest e stands.2 (subst (λ (k : ℕ). IsRecord relations k es rest e) at (n.1 es)))

  -- they are the first
  pub lead : (es : List Entry) (left now : Option (List ℕ)) → StandIn relations base es left now → LeadIn relations base left es
  lead es None now stands = tt
  lead es (Some bytes) now stands = λ catalogue ds reads. stand_first relations catalogue base [] es bytes stands.0 ds stands.2 reads

  -- where none follows, they are all
  pub stand_all : (es : List Entry) (left now : Option (List ℕ)) (from : ℕ) → from ≡ end_from base es → StandIn relations base es left now → IfSome now (HasNoRecord relations from) → IfSome left (λ bytes. Reads relations base [] bytes es)
  stand_all es None now from at stands none = tt
  stand_all es (Some bytes) now from at stands none =
      let n : HasNoRecord relations from stands.0 = subst (λ (o : Option (List ℕ)). IfSome o (HasNoRecord relations from)) stands.1 none in
      stand_then relations base [] es bytes stands.0 stands.2 (λ e r. n es e (subst (λ (k : ℕ). IsRecord relations k es stands.0 e) (sym at) r))

  -- no record ends past the last position
  pub none_behind : (now : Option (List ℕ)) (from : ℕ) → last_position < from + record_size → IfSome now (HasNoRecord relations from)
  none_behind None from high = tt
  none_behind (Some bytes) from high = λ before e r. no_room relations from before bytes e high r

-- ---- the loop

module _ {L : Type 0} (contents : L → Option Pages) (failed unsynced places : L → Marks) (reads writes : L → ℕ) (relations : List RelEntry) (base : ℕ) where
  pub underway_none : (left : Option (List ℕ)) (faults : ℕ) (lanes : List L) (p : Progress) → IsUpto base [] p → IsUnderWay contents failed unsynced places reads writes relations base left left faults faults lanes lanes p
  underway_none left faults lanes p upto = record {
    done = [];
    upto = upto;
    lanes = redone_none (map contents lanes) (map failed lanes);
    stands = stand_at_first relations base left;
    theirs = λ h. h;
    marked = marks_same (IsEnteredBlock []) (map unsynced lanes);
    source_same = refl;
    reads_same = refl;
    writes_same = refl;
    places_same = refl;
  }

  module _ (left now new : Option (List ℕ)) (faults faults_now : ℕ) (old lanes : List L) (p : Progress) (h : IsUnderWay contents failed unsynced places reads writes relations base left now faults faults_now old lanes p) where
    some_lane : 0 < length old → 0 < length (map contents old)
    some_lane some = subst (λ (k : ℕ). 0 < k) (sym (length-map old contents)) some

    as_many : length (map failed old) ≡ length (map contents old)
    as_many = length-map old failed ∙ sym (length-map old contents)

    some_now : 0 < length old → 0 < length (map contents lanes)
    some_now some = subst (λ (k : ℕ). 0 < k) (sym h.lanes.count.0) (some_lane some)

    -- a record more
    pub underway_more : {E : Type 0} (faults_new : ℕ) (after : List L) (q : Progress) (tag : Tag) (page : List ℕ) (r : Result Unit E) (x : Unit {0}) → 0 < length old → IsNextImage relations p.position tag page now new → is_some new ≡ is_some now → faults_new ≡ faults_now
        → p.position + record_size ≤ last_position → StepsOn tag p q → r ≡ Ok x → WritesTo tag page (map contents lanes) (map contents after) (map failed lanes) (map failed after) r
        → map reads after ≡ map reads lanes → map writes after ≡ map writes lanes → map places after ≡ map places lanes → MarksOnly (λ t. t ≡ tag) (map unsynced lanes) (map unsynced after) → IsUnderWay contents failed unsynced places reads writes relations base left new faults faults_new old after q
    underway_more faults_new after q tag page r x some next told quiet room steps ok w same_reads same_writes same_places marked = record {
      done = h.done ++ image_entry p.position tag page ∷ [];
      upto = upto_more base h.done tag page p q h.upto steps next.valid room;
      lanes = redone_more h.done tag page (map contents old) (map contents lanes) (map contents after) (map failed old) (map failed lanes) (map failed after) (some_lane some) as_many h.lanes next.named (image_entry p.position tag page) r x ok w refl;
      stands = stand_next relations base h.done left now new p.position tag page h.upto.position h.stands next told;
      theirs = λ held. theirs_still tag page (map contents lanes) (map contents after) (map failed lanes) (map failed after) r (some_now some) (h.theirs held) w;
      marked = marks_more h.done (image_entry p.position tag page) tag (map unsynced old) (map unsynced lanes) (map unsynced after) next.named refl h.marked marked;
      source_same = quiet ∙ h.source_same;
      reads_same = same_reads ∙ h.reads_same;
      writes_same = same_writes ∙ h.writes_same;
      places_same = same_places ∙ h.places_same;
    }

    -- it stops, and the lanes are as they were then
    pub part_stopped : (after : List L) → after ≡ lanes → LeavesFirst contents failed (LeadIn relations base left) old after
    part_stopped after same = record {
      entries = h.done;
      first = lead relations base h.done left now h.stands;
      valid = (h.upto.law.valid, h.upto.images);
      lanes = inl (subst (λ (l : List L). Redoes contents failed h.done old l) (sym same) h.lanes);
    }

    -- it stops at a write that failed
    pub part_torn : {E : Type 0} (after : List L) (tag : Tag) (page : List ℕ) (r : Result Unit E) (x : E) → 0 < length old → IsNextImage relations p.position tag page now new → is_some new ≡ is_some now → r ≡ Err x
        → WritesTo tag page (map contents lanes) (map contents after) (map failed lanes) (map failed after) r → LeavesFirst contents failed (LeadIn relations base left) old after
    part_torn after tag page r x some next told err w = record {
      entries = h.done;
      first = lead relations base h.done left now h.stands;
      valid = (h.upto.law.valid, h.upto.images);
      lanes = ⊎_elim
          (λ (z : AreRedone h.done (map contents old) (map contents after) (map failed old) (map failed after)). inl z)
          (λ (z : AreRedoneBut h.done (map contents old) (map contents after) (map failed old) (map failed after) tag). inr (record {
            entry = image_entry p.position tag page;
            tag = tag;
            named = next.named;
            of = refl;
            next = lead relations base (h.done ++ image_entry p.position tag page ∷ []) left new (stand_next relations base h.done left now new p.position tag page h.upto.position h.stands next told);
            lanes = z;
          }))
          (redone_torn h.done tag page (map contents old) (map contents lanes) (map contents after) (map failed old) (map failed lanes) (map failed after) (some_lane some) as_many h.lanes next.named r x err w);
    }

    pub theirs_torn : {E : Type 0} (after : List L) (tag : Tag) (page : List ℕ) (r : Result Unit E) → 0 < length old → WritesTo tag page (map contents lanes) (map contents after) (map failed lanes) (map failed after) r → HoldTheirs (map contents old) → HoldTheirs (map contents after)
    theirs_torn after tag page r some w held = theirs_still tag page (map contents lanes) (map contents after) (map failed lanes) (map failed after) r (some_now some) (h.theirs held) w

    -- what it has marked
    pub marks_stopped : MarksFirst (LeadIn relations base left) (map unsynced old) (map unsynced lanes)
    marks_stopped = record { entries = h.done; first = lead relations base h.done left now h.stands; only = h.marked }

    -- and with a write more
    pub marks_torn : (after : List L) (tag : Tag) (page : List ℕ) → IsNextImage relations p.position tag page now new → is_some new ≡ is_some now → MarksOnly (λ t. t ≡ tag) (map unsynced lanes) (map unsynced after)
        → MarksFirst (LeadIn relations base left) (map unsynced old) (map unsynced after)
    marks_torn after tag page next told marked = record {
      entries = h.done ++ image_entry p.position tag page ∷ [];
      first = lead relations base (h.done ++ image_entry p.position tag page ∷ []) left new (stand_next relations base h.done left now new p.position tag page h.upto.position h.stands next told);
      only = marks_more h.done (image_entry p.position tag page) tag (map unsynced old) (map unsynced lanes) (map unsynced after) next.named refl h.marked marked;
    }

    -- it ends where no record follows
    pub all_done : IfSome now (HasNoRecord relations p.position) → HaveRedone contents failed relations base left old lanes p
    all_done none = record {
      done = h.done;
      upto = h.upto;
      lanes = h.lanes;
      all = stand_all relations base h.done left now p.position h.upto.position h.stands none;
    }

    -- or where none has room
    pub all_full : last_position < p.position + record_size → HaveRedone contents failed relations base left old lanes p
    all_full high = all_done (none_behind relations base now p.position high)

-- ---- the whole log

module _ {L : Type 0} (contents : L → Option Pages) (failed : L → Marks) (relations : List RelEntry) where
  -- behind a head
  log_behind : (source left : Option (List ℕ)) (base : ℕ) (es : List Entry) → IfSome source (λ bytes. Begins bytes (Some base) left) → IfSome left (λ bytes. Reads relations base [] bytes es) → IfSome source (λ bytes. IsLogOf relations bytes (record { base = base; entries = es }))
  log_behind None left base es begins reads = tt
  log_behind (Some bytes) left base es begins reads = from_head base es begins.0 (subst (λ (o : Option (List ℕ)). IfSome o (λ b. Reads relations base [] b es)) begins.1 reads)

  pub redone_behind : (source left : Option (List ℕ)) (base : ℕ) (old new : List L) (p : Progress) → IfSome source (λ bytes. Begins bytes (Some base) left) → HaveRedone contents failed relations base left old new p → HasRedone contents failed relations source old new p
  redone_behind source left base old new p begins h = record {
    log = record { base = base; entries = h.done };
    is = log_behind source left base h.done begins h.all;
    upto = h.upto;
    lanes = h.lanes;
  }

  no_log : (source left : Option (List ℕ)) → IfSome source (λ bytes. Begins bytes None left) → IfSome source (λ bytes. IsLogOf relations bytes (record { base = 0; entries = [] }))
  no_log None left begins = tt
  no_log (Some bytes) left begins = too_short begins

  -- without one
  pub redone_without : (source left : Option (List ℕ)) (lanes : List L) (p : Progress) → IfSome source (λ bytes. Begins bytes None left) → IsUpto 0 [] p → HasRedone contents failed relations source lanes lanes p
  redone_without source left lanes p begins upto = record {
    log = record { base = 0; entries = [] };
    is = no_log source left begins;
    upto = upto;
    lanes = redone_none (map contents lanes) (map failed lanes);
  }

  first_behind : (source left : Option (List ℕ)) (base : ℕ) (es : List Entry) → IfSome source (λ bytes. Begins bytes (Some base) left) → LeadIn relations base left es → IfSome source (λ bytes. AreFirstOf relations bytes es)
  first_behind None left base es begins first = tt
  first_behind (Some bytes) left base es begins first = first_of_log relations bytes base es begins.0 (subst (λ (o : Option (List ℕ)). LeadIn relations base o es) begins.1 first)

  -- a part of what is behind a head is a part of the log
  pub part_behind : (source left : Option (List ℕ)) (base : ℕ) (old new : List L) → IfSome source (λ bytes. Begins bytes (Some base) left) → LeavesFirst contents failed (LeadIn relations base left) old new → LeavesPart contents failed relations source old new
  part_behind source left base old new begins h = record {
    entries = h.entries;
    first = first_behind source left base h.entries begins h.first;
    valid = h.valid;
    lanes = ⊎_elim
        (λ (z : Redoes contents failed h.entries old new). inl z)
        (λ (z : FailsAt contents failed (LeadIn relations base left) h.entries old new). inr (record {
          entry = z.entry;
          tag = z.tag;
          named = z.named;
          of = z.of;
          next = first_behind source left base (h.entries ++ z.entry ∷ []) begins z.next;
          lanes = z.lanes;
        }))
        h.lanes;
  }

  first_none : (source : Option (List ℕ)) → IfSome source (λ bytes. AreFirstOf relations bytes [])
  first_none None = tt
  first_none (Some bytes) = (λ bad. refl, λ catalogue log is. (log.entries, refl))

  none_valid : AreValid [] × AreImages []
  none_valid = (λ k e there. absurd (some-ne-none e (sym there)), λ k e there. absurd (some-ne-none e (sym there)))

  -- no entry was redone
  pub part_none : (source : Option (List ℕ)) (lanes : List L) → LeavesPart contents failed relations source lanes lanes
  part_none source lanes = record {
    entries = [];
    first = first_none source;
    valid = none_valid;
    lanes = inl (redone_none (map contents lanes) (map failed lanes));
  }

  -- what was marked behind a head
  pub marks_behind : (source left : Option (List ℕ)) (base : ℕ) (old new : List Marks) → IfSome source (λ bytes. Begins bytes (Some base) left) → MarksFirst (LeadIn relations base left) old new → LeavesUnsynced relations source old new
  marks_behind source left base old new begins h = record { entries = h.entries; first = first_behind source left base h.entries begins h.first; only = h.only }

  -- nothing was
  pub marks_none : (source : Option (List ℕ)) (marks : List Marks) → LeavesUnsynced relations source marks marks
  marks_none source marks = record { entries = []; first = first_none source; only = marks_same (IsEnteredBlock []) marks }

  -- bytes are one log
  same_entries : IsCatalogue relations → (bytes : List ℕ) (a b : Log) → IsLogOf relations bytes a → IsLogOf relations bytes b → b.entries ≡ a.entries
  same_entries catalogue bytes _ _ (too_short s) (too_short t) = refl
  same_entries catalogue bytes _ _ (too_short s) (from_head base es head reads) = absurd (let long = head.long in omega (arith, long, s))
  same_entries catalogue bytes _ _ (from_head base es head reads) (too_short s) = absurd (let long = head.long in omega (arith, long, s))
  same_entries catalogue bytes _ _ (from_head base es head reads) (from_head n ds h more) = read_once relations catalogue base [] (drop 16 bytes) ds es (subst (λ (k : ℕ). Reads relations k [] (drop 16 bytes) ds) (sym h.base_is ∙ head.base_is) more) reads

  -- with a bad head they are none
  none_of_bad : (bytes : List ℕ) (log : Log) → IsLogOf relations bytes log → HasBadHead bytes → log.entries ≡ []
  none_of_bad bytes _ (too_short s) bad = refl
  none_of_bad bytes _ (from_head base es head reads) bad = absurd (bad.1 base head)

  first_all : (source : Option (List ℕ)) (log : Log) → IfSome source (λ bytes. IsLogOf relations bytes log) → IfSome source (λ bytes. AreFirstOf relations bytes log.entries)
  first_all None log is = tt
  first_all (Some bytes) log is = (none_of_bad bytes log is, λ catalogue other there. ([], same_entries catalogue bytes log other is there ∙ sym (append-nil log.entries)))

  -- what calls leave that change no contents
  redoes_still : (es : List Entry) (old new after : List L) → map contents after ≡ map contents new → map failed after ≡ map failed new → Redoes contents failed es old new → Redoes contents failed es old after
  redoes_still es old new after same kept h = subst (λ (l : List (Option Pages)). AreRedone es (map contents old) l (map failed old) (map failed after)) (sym same) (subst (λ (l : List Marks). AreRedone es (map contents old) (map contents new) (map failed old) l) (sym kept) h)

  -- all entries were redone, and a sync failed
  pub part_all : (source : Option (List ℕ)) (old new after : List L) (p : Progress) → HasRedone contents failed relations source old new p → map contents after ≡ map contents new → map failed after ≡ map failed new → LeavesPart contents failed relations source old after
  part_all source old new after p h same kept = record {
    entries = h.log.entries;
    first = first_all source h.log h.is;
    valid = (h.upto.law.valid, h.upto.images);
    lanes = inl (redoes_still h.log.entries old new after same kept h.lanes);
  }

  pub recovered : (source : Option (List ℕ)) (old new after : List L) (p : Progress) (r : Redone) → HasRedone contents failed relations source old new p → map contents after ≡ map contents new → map failed after ≡ map failed new
      → r.base ≡ p.base → r.end ≡ p.position → r.entries ≡ p.entries → r.blocks ≡ length p.blocks.keys → IsRecovered contents failed relations source old after r
  recovered source old new after p r h same kept base end entries blocks = record {
    log = h.log;
    is = h.is;
    law = (h.upto.law, h.upto.images);
    told = record {
      base = base ∙ h.upto.base_is;
      end = end ∙ h.upto.position;
      entries = entries ∙ h.upto.entries;
      blocks = blocks ∙ h.upto.count;
    };
    lanes = redoes_still h.log.entries old new after same kept h.lanes;
  }

-- ---- lanes that are synced

module _ {L : Type 0} (contents : L → Option Pages) (failed unsynced places : L → Marks) (reads writes : L → ℕ) where
  pub syncing_none : (lanes : List L) → IsSyncing contents failed unsynced places reads writes 0 lanes lanes
  syncing_none lanes = record {
    synced = λ k d low. absurd (omega arith);
    unmarked = marks_same (λ tag. ⊥) (map unsynced lanes);
    contents_same = refl;
    failed_same = refl;
    reads_same = refl;
    writes_same = refl;
    places_same = refl;
  }

  pub syncing_more : (i : ℕ) (old lanes : List L) (y d : L) → i < length lanes → IsSyncing contents failed unsynced places reads writes i old lanes → contents y ≡ contents (get_or lanes i d) → failed y ≡ failed (get_or lanes i d) → unsynced y ≡ no_marks
      → places y ≡ places (get_or lanes i d) → reads y ≡ reads (get_or lanes i d) → writes y ≡ writes (get_or lanes i d) → IsSyncing contents failed unsynced places reads writes (i + 1) old (set lanes i y)
  syncing_more i old lanes y d below h a b done e f g = record {
    synced = λ k x low. ⊎_elim
        (λ (at : k ≡ i). ap (λ (n : ℕ). unsynced (get_or (set lanes i y) n x)) at ∙ ap unsynced (get_or-set_same lanes i y x below) ∙ done)
        (λ (other : k ≡ i → ⊥). ap unsynced (get_or-set_other lanes i k y x other) ∙ h.synced k x (let n : k ≢ i = other in omega arith))
        (cases_eq k i);
    unmarked = marks_of_none (λ tag. ⊥) (map unsynced old) (map unsynced lanes) (map unsynced (set lanes i y)) h.unmarked (marks_cleared unsynced lanes i y d below done);
    contents_same = map-set_same contents lanes i y d a ∙ h.contents_same;
    failed_same = map-set_same failed lanes i y d b ∙ h.failed_same;
    reads_same = map-set_same reads lanes i y d f ∙ h.reads_same;
    writes_same = map-set_same writes lanes i y d g ∙ h.writes_same;
    places_same = map-set_same places lanes i y d e ∙ h.places_same;
  }
