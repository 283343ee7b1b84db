-- Records that stand first in bytes.
use Rattle.std.proofs.Common.{◌≡◌, ℕ, List, [], ◌∷◌, ◌++◌, append-nil, drop, sym, refl, ap, ◌∙◌, subst, arith}
use Rattle.std.proofs.lemmas.List.{append_assoc}
use Rattle.block_tag.specs.declared.catalogue.RelEntry.{RelEntry}
use Rattle.block_tag.specs.Catalogue.{IsCatalogue}
use Rattle.history_core.specs.Log.{Entry, Log, change_size, end_of, end_from}
use Rattle.log_recovery.specs.Records.{IsRecord, IsHead, IsLogOf, too_short, from_head, Reads}
use Rattle.log_recovery.specs.Redo.{AreFirstOf}
use Rattle.log_recovery.specs.Steps.{AreFirstBehind, Stand}
use Rattle.log_recovery.proofs.Same.{same_record}

module _ (relations : List RelEntry) where
  pub stand_none : (from : ℕ) (before : List Entry) (bytes : List ℕ) → Stand relations from before bytes [] bytes
  unfolding Stand
  stand_none from before bytes = refl

  -- behind no entries
  none_before : (from : ℕ) (before : List Entry) (bytes rest : List ℕ) (e : Entry) → rest ≡ bytes → IsRecord relations from (before ++ []) rest e → IsRecord relations from before bytes e
  none_before from before bytes rest e is r = subst (λ (l : List ℕ). IsRecord relations from before l e) is (subst (λ (l : List Entry). IsRecord relations from l rest e) (append-nil before) r)

  -- behind one entry, and the others
  one_before : (from : ℕ) (before es : List Entry) (x : Entry) (rest : List ℕ) (e : Entry) → IsRecord relations from (before ++ x ∷ es) rest e → IsRecord relations from ((before ++ x ∷ []) ++ es) rest e
  one_before from before es x rest e r = subst (λ (l : List Entry). IsRecord relations from l rest e) (sym (append_assoc before (x ∷ []) es)) r

  -- a record more
  pub stand_more : (from : ℕ) (before es : List Entry) (bytes rest : List ℕ) (e : Entry) → Stand relations from before bytes es rest → IsRecord relations (end_from from es) (before ++ es) rest e
      → Stand relations from before bytes (es ++ e ∷ []) (drop (change_size e.change) rest)
  unfolding Stand end_from
  stand_more from before [] bytes rest e s r = (none_before from before bytes rest e s r, ap (drop (change_size e.change)) s)
  stand_more from before (x ∷ es) bytes rest e s r = (s.0, stand_more (end_of x) (before ++ x ∷ []) es (drop (change_size x.change) bytes) rest e s.1 (one_before (end_from (end_of x) es) before es x rest e r))

  -- where none follows, they are all that are read
  pub stand_then : (from : ℕ) (before es : List Entry) (bytes rest : List ℕ) → Stand relations from before bytes es rest → ((e : Entry) → IsRecord relations (end_from from es) (before ++ es) rest e → ⊥) → Reads relations from before bytes es
  unfolding Stand Reads end_from
  stand_then from before [] bytes rest s none = λ e r. none e (subst (λ (l : List ℕ). IsRecord relations from (before ++ []) l e) (sym s) (subst (λ (l : List Entry). IsRecord relations from l bytes e) (sym (append-nil before)) r))
  stand_then from before (x ∷ es) bytes rest s none = (
    s.0,
    stand_then (end_of x) (before ++ x ∷ []) es (drop (change_size x.change) bytes) rest s.1
        (λ e r. none e (subst (λ (l : List Entry). IsRecord relations (end_from (end_of x) es) l rest e) (append_assoc before (x ∷ []) es) r)),
  )

  -- what is read begins with them
  pub stand_first : IsCatalogue relations → (from : ℕ) (before es : List Entry) (bytes rest : List ℕ) (ds : List Entry) → Stand relations from before bytes es rest → Reads relations from before bytes ds → (more : List Entry) × (ds ≡ es ++ more)
  unfolding Stand Reads
  stand_first catalogue from before [] bytes rest ds s reads = (ds, refl)
  stand_first catalogue from before (x ∷ es) bytes rest [] s reads = absurd (reads x s.0)
  stand_first catalogue from before (x ∷ es) bytes rest (d ∷ ds) s reads = let same = same_record relations catalogue from before bytes d x reads.0 s.0 in
      let r = stand_first catalogue (end_of x) (before ++ x ∷ []) es (drop (change_size x.change) bytes) rest ds s.1 (subst (λ (y : Entry). Reads relations (end_of y) (before ++ y ∷ []) (drop (change_size y.change) bytes) ds) same reads.1) in
      (r.0, ap (λ (y : Entry). y ∷ ds) same ∙ ap (λ (l : List Entry). x ∷ l) r.1)

  -- the first entries behind a head are the log's
  pub first_of_log : (bytes : List ℕ) (base : ℕ) (es : List Entry) → IsHead bytes base → AreFirstBehind relations base (drop 16 bytes) es → AreFirstOf relations bytes es
  first_of_log bytes base es head first = (λ bad. absurd (bad.1 base head), by_log)
    where
      by_log : IsCatalogue relations → (log : Log) → IsLogOf relations bytes log → (rest : List Entry) × (log.entries ≡ es ++ rest)
      by_log catalogue _ (too_short short) = absurd (let long = head.long in omega (arith, long, short))
      by_log catalogue _ (from_head b ds h reads) = first catalogue ds (subst (λ (n : ℕ). Reads relations n [] (drop 16 bytes) ds) (sym h.base_is ∙ head.base_is) reads)
