-- What the end of a command tells of its status.
use Rattle.std.proofs.Common.{◌≡◌, ◌⊎◌, ℕ, ◌-◌, ◌^◌, ◌<◌, ◌++◌, false, true, List, [], Option, Some, None, Result, Ok, Err, refl, sym, ◌∙◌, ap, subst, inl, inr, is_some, arith}
use Rattle.std.specs.Prelude.{IfSome, IsSome, IsSomeAnd, option_map}
use Rattle.std.proofs.lemmas.List.{append-nil}
use Rattle.std.proofs.lemmas.Option.{IfSome_then}
use Rattle.byte_devices.specs.Bytes.{GainsPrefix, Puts}
use Rattle.byte_devices.specs.Faults.{Rose}
use Rattle.segment_store.specs.Logs.{Logs}
use Rattle.segment_store.specs.Paths.{Paths}
use Rattle.pin_core.specs.State.{Page}
use Rattle.history_core.specs.Log.{Log}
use Rattle.relation_commands.specs.declared.error.ToolError.{ToolError}
use Rattle.relation_commands.specs.declared.error.ToolError.TheVariants.{Usage, Crowded, Missing, ReadFault, WriteFault, LogFault, OutFault, Memory, OverLimit, BadLog}
use Rattle.relation_commands.specs.declared.limits.PositionLimit.{PositionLimit}
use Rattle.relation_commands.specs.declared.limits.PositionLimit.TheVariants.{OfPages, OfPage, OfLog}
use Rattle.relation_commands.specs.Answers.{ArePastLimit, BadLogIf, CrowdedIf, Ends, FaultCounts, FaultIf, HasBadLog, HasGoodHead, HasLog, HasPositions, HasPositionsAt, IsAbsent, IsComplete, IsDone, IsKnownLog, IsKnownThere, IsMissing, IsOverLimit, IsRefusal, IsThere, LacksLog, LeavesFiles, LimitIf, MissingIf, PutsLogOf, SaysAs, UsageIf, Wrote, WroteCounted, WroteLogOf, pages_asked}
use Rattle.relation_commands.specs.Limits.{PassesLimit, largest_lsn}
use Rattle.relation_commands.specs.Listings.{CountedText, PutsCounted, io_line}
use Rattle.relation_commands.specs.RecoverFiles.{ForLogOf}
use Rattle.relation_commands.specs.RecoverTexts.{recover_text}
use Rattle.command_line.specs.Request.{Asked, LoggedAsked, is_rewriting, listing, options_of, path_of, recovering, rewriting, sampling}
use Rattle.relation_commands.specs.RewriteFiles.{BecomesOf, HostFiles}
use Rattle.relation_commands.specs.Status.{status_of_error}
use Rattle.relation_commands.proofs.Stepping.{becomes_also}
use Rattle.relation_commands.proofs.GivenFiles.{of_none}

not_past : (a : Asked) (pages : List Page) → is_rewriting a ≡ true → HasPositions a pages → ArePastLimit pages → ⊥
not_past (listing l) pages is has past = let no : false ≡ true = is in cc
not_past (rewriting r) pages is has past = has past
not_past (recovering r) pages is has past = let no : false ≡ true = is in cc
not_past (sampling s) pages is has past = let no : false ≡ true = is in cc

past_by : (known : Option Paths) (f : Paths → List Page) (limit : PositionLimit) → IsOverLimit (option_map f known) limit → IfSome known (λ paths. ArePastLimit (f paths))
past_by None f limit over = tt
past_by (Some paths) f (OfPages largest blocks) over =
    subst (λ (n : ℕ). PassesLimit (largest_lsn (f paths)) n) over.1.1 (subst (λ (n : ℕ). PassesLimit n blocks) over.1.0 over.0)
past_by (Some paths) f (OfPage lsn end) over = absurd over.1
past_by (Some paths) f (OfLog end) over = absurd over.1

-- what is said of an option is said of its value, if it is known
known_at : {X : Type 0} (P : Option X → Type 0) (known : Option X) → P known → IfSome known (λ x. P (Some x))
known_at P None is = tt
known_at P (Some x) is = is

not_both : (path : Option (List ℕ)) (paths : Paths) → IsMissing (Some paths) path → IsThere (Some paths) path → ⊥
not_both None paths missing there = missing
not_both (Some p) paths missing there = there missing

-- a log that is there isn't lacked, and one with a good head has no bad one
is_not_none : {X : Type 0} (o : Option X) → IsSome o → o ≡ None → ⊥
is_not_none o is none = let no : false ≡ true = subst (λ x. is_some x ≡ true) none is in cc

is_and : {X : Type 0} (o : Option X) (P : X → Type 0) → IsSomeAnd o P → IsSome o
is_and None P is = absurd is
is_and (Some x) P is = refl

if_not : {X : Type 0} (o : Option X) (P : X → Type 0) → IfSome o (λ x. ¬ P x) → IsSomeAnd o P → ⊥
if_not None P not is = is
if_not (Some x) P not is = not is

not_lacking : (a : Asked) (logs : Logs) → HasLog a (Some logs) → LacksLog a (Some logs) → ⊥
not_lacking (listing l) logs has lacks = lacks
not_lacking (rewriting r) logs has lacks = lacks
not_lacking (recovering r) logs has lacks = is_not_none (logs r.log) has lacks
not_lacking (sampling s) logs has lacks = lacks

not_bad : (a : Asked) (logs : Logs) → HasGoodHead a (Some logs) → HasBadLog a (Some logs) → ⊥
not_bad (listing l) logs good bad = bad
not_bad (rewriting r) logs good bad = bad
not_bad (recovering r) logs good bad = if_not (logs r.log) _ good bad
not_bad (sampling s) logs good bad = bad

bad_there : (a : Asked) (logs : Option Logs) → HasBadLog a logs → HasLog a logs
bad_there (listing l) logs bad = tt
bad_there (rewriting r) logs bad = tt
bad_there (recovering r) None bad = tt
bad_there (recovering r) (Some logs) bad = is_and (logs r.log) _ bad
bad_there (sampling s) logs bad = tt

-- a rewrite makes its log, so that none is lacked or bad
rewriting_has : (a : Asked) (logs : Option Logs) → is_rewriting a ≡ true → HasLog a logs × HasGoodHead a logs
rewriting_has (listing l) logs is = (tt, tt)
rewriting_has (rewriting r) logs is = (tt, tt)
rewriting_has (recovering r) logs is = let no : false ≡ true = is in cc
rewriting_has (sampling s) logs is = (tt, tt)

rewriting_lacks : (a : Asked) (logs : Option Logs) → is_rewriting a ≡ true → LacksLog a logs → ⊥
rewriting_lacks (listing l) logs is lacks = lacks
rewriting_lacks (rewriting r) logs is lacks = lacks
rewriting_lacks (recovering r) logs is lacks = let no : false ≡ true = is in cc
rewriting_lacks (sampling s) logs is lacks = lacks

rewriting_bad : (a : Asked) (logs : Option Logs) → is_rewriting a ≡ true → HasBadLog a logs → ⊥
rewriting_bad (listing l) logs is bad = bad
rewriting_bad (rewriting r) logs is bad = bad
rewriting_bad (recovering r) logs is bad = let no : false ≡ true = is in cc
rewriting_bad (sampling s) logs is bad = bad

module _ (a : Asked) (known : Option Paths) (logs : Option Logs) (old new : FaultCounts) where
  abbrev MissingEnds : ℕ → Type 0
  MissingEnds status = (status ≡ 3) ⊎ ((status ≡ 8) ⊎ ((status ≡ 4) × Rose old.reads new.reads))

  abbrev PathEnds : ℕ → Paths → Type 0
  PathEnds status paths = IsMissing (Some paths) (path_of a) → MissingEnds status

  abbrev LogEnds : ℕ → Paths → Logs → Type 0
  LogEnds status paths l = IsThere (Some paths) (path_of a) → LacksLog a (Some l) → MissingEnds status

  there_is : (status : ℕ) → IsThere known (path_of a) → IfSome known (PathEnds status)
  there_is status there = IfSome_then known {Q = PathEnds status} (known_at (λ k. IsThere k (path_of a)) known there)
      (λ paths is gone. absurd (not_both (path_of a) paths gone is))

  log_is : (status : ℕ) → HasLog a logs → IfSome known (λ paths. IfSome logs (LogEnds status paths))
  log_is status has = of_none known (λ paths. IfSome logs (LogEnds status paths)) (λ paths.
      IfSome_then logs {Q = LogEnds status paths} (known_at (HasLog a) logs has) (λ l h there lacks. absurd (not_lacking a l h lacks)))

  -- the status is one of these
  path_ends : (status : ℕ) → MissingEnds status → IfSome known (PathEnds status)
  path_ends status ends = of_none known (PathEnds status) (λ paths gone. ends)

  log_ends : (status : ℕ) → MissingEnds status → IfSome known (λ paths. IfSome logs (LogEnds status paths))
  log_ends status ends = of_none known (λ paths. IfSome logs (LogEnds status paths)) (λ paths. of_none logs (LogEnds status paths) (λ l there lacks. ends))

  absent_is : (path : List ℕ) → IsAbsent a known logs path → IsMissing known (path_of a) ⊎ (IsThere known (path_of a) × LacksLog a logs)
  absent_is path (inl is) = inl is.1
  absent_is path (inr is) = inr (is.1, is.2)

  missing_if : (e : ToolError) → IsRefusal a known logs old new e → MissingIf a known logs old.reads new.reads (status_of_error e)
  missing_if Usage ends = absurd ends
  missing_if (Crowded crowding) ends = record { only = λ three. absurd (omega arith); always = λ roomy. absurd (roomy ends.1); always_log = λ roomy. absurd (roomy ends.1) }
  missing_if (Missing path) ends = record {
    only = λ three. (absent_is path.now ends.0, ends.1, ends.2);
    always = λ roomy. path_ends 3 (inl refl);
    always_log = λ roomy. log_ends 3 (inl refl);
  }
  missing_if ReadFault ends = record {
    only = λ three. absurd (omega arith);
    always = λ roomy. path_ends 4 (inr (inr (refl, ends.0)));
    always_log = λ roomy. log_ends 4 (inr (inr (refl, ends.0)));
  }
  missing_if WriteFault ends = record { only = λ three. absurd (omega arith); always = λ roomy. there_is 5 ends.1; always_log = λ roomy. log_is 5 ends.5 }
  missing_if LogFault ends = record { only = λ three. absurd (omega arith); always = λ roomy. there_is 6 ends.1; always_log = λ roomy. log_is 6 (rewriting_has a logs ends.3).0 }
  missing_if OutFault ends = record { only = λ three. absurd (omega arith); always = λ roomy. there_is 7 ends.1; always_log = λ roomy. log_is 7 ends.4 }
  missing_if Memory ends = record { only = λ three. absurd (omega arith); always = λ roomy. path_ends 8 (inr (inl refl)); always_log = λ roomy. log_ends 8 (inr (inl refl)) }
  missing_if (OverLimit limit) ends = record { only = λ three. absurd (omega arith); always = λ roomy. there_is 9 ends.1; always_log = λ roomy. log_is 9 (rewriting_has a logs ends.3).0 }
  missing_if (BadLog path) ends = record { only = λ three. absurd (omega arith); always = λ roomy. there_is 10 ends.1; always_log = λ roomy. log_is 10 (bad_there a logs ends.2) }

  pub missing_done : IsDone a known logs old new → MissingIf a known logs old.reads new.reads 0
  missing_done done = record { only = λ three. absurd (omega arith); always = λ roomy. there_is 0 done.there; always_log = λ roomy. log_is 0 done.logged.0 }

  abbrev BadEnds : ℕ → Paths → Logs → Type 0
  BadEnds status paths l = IsThere (Some paths) (path_of a) → HasBadLog a (Some l) → (status ≡ 10) ⊎ (status ≡ 8)

  good_is : (status : ℕ) → HasGoodHead a logs → IfSome known (λ paths. IfSome logs (BadEnds status paths))
  good_is status good = of_none known (λ paths. IfSome logs (BadEnds status paths)) (λ paths.
      IfSome_then logs {Q = BadEnds status paths} (known_at (HasGoodHead a) logs good) (λ l g there bad. absurd (not_bad a l g bad)))

  bad_ends : (status : ℕ) → (status ≡ 10) ⊎ (status ≡ 8) → IfSome known (λ paths. IfSome logs (BadEnds status paths))
  bad_ends status ends = of_none known (λ paths. IfSome logs (BadEnds status paths)) (λ paths. of_none logs (BadEnds status paths) (λ l there bad. ends))

  -- a log that isn't there has no bad head
  absent_ends : (path : List ℕ) (status : ℕ) → IsAbsent a known logs path → IfSome known (λ paths. IfSome logs (BadEnds status paths))
  absent_ends path status (inl is) = IfSome_then known {Q = λ paths. IfSome logs (BadEnds status paths)} (known_at (λ k. IsMissing k (path_of a)) known is.1)
      (λ paths gone. of_none logs (BadEnds status paths) (λ l there bad. absurd (not_both (path_of a) paths gone there)))
  absent_ends path status (inr is) = of_none known (λ paths. IfSome logs (BadEnds status paths)) (λ paths.
      IfSome_then logs {Q = BadEnds status paths} (known_at (LacksLog a) logs is.2) (λ l lacks there bad. absurd (not_lacking a l (bad_there a (Some l) bad) lacks)))

  bad_log_if : (e : ToolError) → IsRefusal a known logs old new e → BadLogIf a known logs old.reads new.reads (status_of_error e)
  bad_log_if Usage ends = absurd ends
  bad_log_if (Crowded crowding) ends = record { only = λ ten. absurd (omega arith); always = λ roomy still. absurd (roomy ends.1) }
  bad_log_if (Missing path) ends = record { only = λ ten. absurd (omega arith); always = λ roomy still. absent_ends path.now 3 ends.0 }
  bad_log_if ReadFault ends = record { only = λ ten. absurd (omega arith); always = λ roomy still. absurd (still ends.0) }
  bad_log_if WriteFault ends = record { only = λ ten. absurd (omega arith); always = λ roomy still. good_is 5 (ends.6 still) }
  bad_log_if LogFault ends = record { only = λ ten. absurd (omega arith); always = λ roomy still. good_is 6 (rewriting_has a logs ends.3).1 }
  bad_log_if OutFault ends = record { only = λ ten. absurd (omega arith); always = λ roomy still. good_is 7 ends.5 }
  bad_log_if Memory ends = record { only = λ ten. absurd (omega arith); always = λ roomy still. bad_ends 8 (inr refl) }
  bad_log_if (OverLimit limit) ends = record { only = λ ten. absurd (omega arith); always = λ roomy still. good_is 9 (rewriting_has a logs ends.3).1 }
  bad_log_if (BadLog path) ends = record { only = λ ten. (ends.1, ends.2, ends.3, ends.4); always = λ roomy still. bad_ends 10 (inl refl) }

  pub bad_log_done : IsDone a known logs old new → BadLogIf a known logs old.reads new.reads 0
  bad_log_done done = record { only = λ ten. absurd (omega arith); always = λ roomy still. good_is 0 done.logged.1 }

  crowded_if : (e : ToolError) → IsRefusal a known logs old new e → CrowdedIf (options_of a) (status_of_error e)
  crowded_if Usage ends = absurd ends
  crowded_if (Crowded crowding) ends = record { only = λ two. ends.1; always = λ crowded. inl refl }
  crowded_if (Missing path) ends = record { only = λ two. absurd (omega arith); always = λ crowded. absurd (ends.1 crowded) }
  crowded_if ReadFault ends = record { only = λ two. absurd (omega arith); always = λ crowded. absurd (ends.1 crowded) }
  crowded_if WriteFault ends = record { only = λ two. absurd (omega arith); always = λ crowded. absurd (ends.2 crowded) }
  crowded_if LogFault ends = record { only = λ two. absurd (omega arith); always = λ crowded. absurd (ends.2 crowded) }
  crowded_if OutFault ends = record { only = λ two. absurd (omega arith); always = λ crowded. absurd (ends.2 crowded) }
  crowded_if Memory ends = record { only = λ two. absurd (omega arith); always = λ crowded. inr refl }
  crowded_if (OverLimit limit) ends = record { only = λ two. absurd (omega arith); always = λ crowded. absurd (ends.2 crowded) }
  crowded_if (BadLog path) ends = record { only = λ two. absurd (omega arith); always = λ crowded. absurd (ends.3 crowded) }

  abbrev LimitEnds : ℕ → Paths → Type 0
  LimitEnds status paths = IsThere (Some paths) (path_of a) → ArePastLimit (pages_asked a paths) → (status ≡ 9) ⊎ ((status ≡ 8) ⊎ ((status ≡ 4) × Rose old.reads new.reads))

  below_limit : (status : ℕ) → HasPositionsAt a known → is_rewriting a ≡ true → IfSome known (LimitEnds status)
  below_limit status has is = IfSome_then known {Q = LimitEnds status} has (λ paths h there past. absurd (not_past a (pages_asked a paths) is h past))

  both : (k : Option Paths) → IfSome k (λ paths. IsThere (Some paths) (path_of a)) → IfSome k (λ paths. ArePastLimit (pages_asked a paths))
      → IfSome k (λ paths. IsThere (Some paths) (path_of a) × ArePastLimit (pages_asked a paths))
  both None there past = tt
  both (Some paths) there past = (there, past)

  absent_limit : (path : List ℕ) → is_rewriting a ≡ true → IsAbsent a known logs path → IfSome known (LimitEnds 3)
  absent_limit path is (inl gone) = IfSome_then known {Q = LimitEnds 3} (known_at (λ k. IsMissing k (path_of a)) known gone.1)
      (λ paths missing there past. absurd (not_both (path_of a) paths missing there))
  absent_limit path is (inr lacks) = absurd (rewriting_lacks a logs is lacks.2)

  limit_if : (e : ToolError) → IsRefusal a known logs old new e → LimitIf a known old.reads new.reads (status_of_error e)
  limit_if Usage ends = absurd ends
  limit_if (Crowded crowding) ends = record { only = λ nine. absurd (omega arith); always = λ is roomy. absurd (roomy ends.1) }
  limit_if (Missing path) ends = record { only = λ nine. absurd (omega arith); always = λ is roomy. absent_limit path.now is ends.0 }
  limit_if ReadFault ends = record { only = λ nine. absurd (omega arith); always = λ is roomy. of_none known (LimitEnds 4) (λ paths there past. inr (inr (refl, ends.0))) }
  limit_if WriteFault ends = record { only = λ nine. absurd (omega arith); always = λ is roomy. below_limit 5 ends.4 is }
  limit_if LogFault ends = record { only = λ nine. absurd (omega arith); always = λ is roomy. below_limit 6 ends.4 is }
  limit_if OutFault ends = record { only = λ nine. absurd (omega arith); always = λ is roomy. below_limit 7 ends.3 is }
  limit_if Memory ends = record { only = λ nine. absurd (omega arith); always = λ is roomy. of_none known (LimitEnds 8) (λ paths there past. inr (inl refl)) }
  limit_if (OverLimit limit) ends = record {
    only = λ nine. (ends.3, ends.2, both known (known_at (λ k. IsThere k (path_of a)) known ends.1) (past_by known (pages_asked a) limit ends.0));
    always = λ is roomy. of_none known (LimitEnds 9) (λ paths there past. inl refl);
  }
  limit_if (BadLog path) ends = record { only = λ nine. absurd (omega arith); always = λ is roomy. absurd (rewriting_bad a logs is ends.2) }

-- a count that was not at its last value and stayed did not rise
not_risen : (n m : ℕ) → Rose n m → m ≡ n → n < 2 ^ 64 - 1 → ⊥
not_risen n m rose same below = omega arith

not_gone : (path : Option (List ℕ)) (known : Option Paths) → IsKnownThere known path → IsMissing known path → ⊥
not_gone None known there missing = missing
not_gone (Some p) None there missing = there
not_gone (Some p) (Some paths) there missing = there missing

is_known : {X : Type 0} (o : Option X) (P : X → Type 0) → IsSomeAnd o (λ x. ¬ P x) → IsSomeAnd o P → ⊥
is_known None P not is = is
is_known (Some x) P not is = not is

-- a log that is known to be there, with a good head
known_not_lacking : (a : Asked) (logs : Option Logs) → IsKnownLog a logs → LacksLog a logs → ⊥
known_not_lacking (listing l) logs known lacks = lacks
known_not_lacking (rewriting r) logs known lacks = lacks
known_not_lacking (recovering r) None known lacks = known
known_not_lacking (recovering r) (Some logs) known lacks = is_not_none (logs r.log) (is_and (logs r.log) _ known) lacks
known_not_lacking (sampling s) logs known lacks = lacks

known_not_bad : (a : Asked) (logs : Option Logs) → IsKnownLog a logs → HasBadLog a logs → ⊥
known_not_bad (listing l) logs known bad = bad
known_not_bad (rewriting r) logs known bad = bad
known_not_bad (recovering r) None known bad = known
known_not_bad (recovering r) (Some logs) known bad = is_known (logs r.log) _ known bad
known_not_bad (sampling s) logs known bad = bad

known_not_absent : (a : Asked) (known : Option Paths) (logs : Option Logs) (path : List ℕ)
    → IsKnownThere known (path_of a) → IsKnownLog a logs → IsAbsent a known logs path → ⊥
known_not_absent a known logs path there has (inl is) = not_gone (path_of a) known there is.1
known_not_absent a known logs path there has (inr is) = known_not_lacking a logs has is.2

-- pages that are known to have positions left are not past the limit
not_over : (a : Asked) (known : Option Paths) (limit : PositionLimit) → is_rewriting a ≡ true → IsKnownThere known (path_of a) → HasPositionsAt a known
    → IsOverLimit (option_map (pages_asked a) known) limit → ⊥
not_over (listing l) known limit is there has over = let no : false ≡ true = is in cc
not_over (recovering r) known limit is there has over = let no : false ≡ true = is in cc
not_over (sampling s) known limit is there has over = let no : false ≡ true = is in cc
not_over (rewriting r) None limit is there has over = there
not_over (rewriting r) (Some paths) limit is there has over = has (past_by (Some paths) (pages_asked (rewriting r)) limit over)

module _ (a : Asked) (known : Option Paths) (logs : Option Logs) (old new : FaultCounts) where
  complete_if : (e : ToolError) → IsRefusal a known logs old new e → IsComplete a known logs old new (status_of_error e)
  complete_if Usage ends = absurd ends
  complete_if (Crowded crowding) ends = λ roomy there logged has same below. absurd (roomy ends.1)
  complete_if (Missing path) ends = λ roomy there logged has same below. absurd (known_not_absent a known logs path.now there logged ends.0)
  complete_if ReadFault ends = λ roomy there logged has same below. absurd (not_risen old.reads new.reads ends.0 (ap (λ (c : FaultCounts). c.reads) same) below.reads)
  complete_if WriteFault ends = λ roomy there logged has same below. absurd (not_risen old.writes new.writes ends.0 (ap (λ (c : FaultCounts). c.writes) same) below.writes)
  complete_if LogFault ends = λ roomy there logged has same below. absurd (not_risen old.logs new.logs ends.0 (ap (λ (c : FaultCounts). c.logs) same) below.logs)
  complete_if OutFault ends = λ roomy there logged has same below. absurd (not_risen old.outs new.outs ends.0 (ap (λ (c : FaultCounts). c.outs) same) below.outs)
  complete_if Memory ends = λ roomy there logged has same below. inr refl
  complete_if (OverLimit limit) ends = λ roomy there logged has same below. absurd (not_over a known limit ends.3 there has ends.0)
  complete_if (BadLog path) ends = λ roomy there logged has same below. absurd (known_not_bad a logs logged ends.2)

module _ (known : Option Paths) (logs : Option Logs) (old new : FaultCounts) where
  usage_if : (request : Option Asked) (e : ToolError) → Ends request known logs old new (Err e) → UsageIf request (status_of_error e)
  usage_if None Usage ends = record { only = λ one. refl; always = λ none. inl refl }
  usage_if None Memory ends = record { only = λ one. refl; always = λ none. inr refl }
  usage_if None (Crowded crowding) ends = absurd ends
  usage_if None (Missing path) ends = absurd ends
  usage_if None ReadFault ends = absurd ends
  usage_if None WriteFault ends = absurd ends
  usage_if None LogFault ends = absurd ends
  usage_if None OutFault ends = absurd ends
  usage_if None (OverLimit limit) ends = absurd ends
  usage_if None (BadLog path) ends = absurd ends
  usage_if (Some a) Usage ends = absurd ends
  usage_if (Some a) (Crowded crowding) ends = record { only = λ one. absurd (omega arith); always = λ none. cc }
  usage_if (Some a) (Missing path) ends = record { only = λ one. absurd (omega arith); always = λ none. cc }
  usage_if (Some a) ReadFault ends = record { only = λ one. absurd (omega arith); always = λ none. cc }
  usage_if (Some a) WriteFault ends = record { only = λ one. absurd (omega arith); always = λ none. cc }
  usage_if (Some a) LogFault ends = record { only = λ one. absurd (omega arith); always = λ none. cc }
  usage_if (Some a) OutFault ends = record { only = λ one. absurd (omega arith); always = λ none. cc }
  usage_if (Some a) Memory ends = record { only = λ one. absurd (omega arith); always = λ none. cc }
  usage_if (Some a) (OverLimit limit) ends = record { only = λ one. absurd (omega arith); always = λ none. cc }
  usage_if (Some a) (BadLog path) ends = record { only = λ one. absurd (omega arith); always = λ none. cc }

  no_fault : (request : Option Asked) (status : ℕ) → (status < 4) ⊎ (7 < status) → FaultIf request old new status
  no_fault request status (inl low) = record { reads = λ four. absurd (omega arith); writes = λ five. absurd (omega arith); logs = λ six. absurd (omega arith); outs = λ seven. absurd (omega arith) }
  no_fault request status (inr high) = record { reads = λ four. absurd (omega arith); writes = λ five. absurd (omega arith); logs = λ six. absurd (omega arith); outs = λ seven. absurd (omega arith) }

  fault_if : (request : Option Asked) (e : ToolError) → Ends request known logs old new (Err e) → FaultIf request old new (status_of_error e)
  fault_if None Usage ends = no_fault None 1 (inl (omega arith))
  fault_if None Memory ends = no_fault None 8 (inr (omega arith))
  fault_if None (Crowded crowding) ends = absurd ends
  fault_if None (Missing path) ends = absurd ends
  fault_if None ReadFault ends = absurd ends
  fault_if None WriteFault ends = absurd ends
  fault_if None LogFault ends = absurd ends
  fault_if None OutFault ends = absurd ends
  fault_if None (OverLimit limit) ends = absurd ends
  fault_if None (BadLog path) ends = absurd ends
  fault_if (Some a) Usage ends = absurd ends
  fault_if (Some a) (Crowded crowding) ends = no_fault (Some a) 2 (inl (omega arith))
  fault_if (Some a) (Missing path) ends = no_fault (Some a) 3 (inl (omega arith))
  fault_if (Some a) ReadFault ends = record { reads = λ four. (ends.0, ends.2); writes = λ five. absurd (omega arith); logs = λ six. absurd (omega arith); outs = λ seven. absurd (omega arith) }
  fault_if (Some a) WriteFault ends = record { reads = λ four. absurd (omega arith); writes = λ five. (ends.0, ends.3); logs = λ six. absurd (omega arith); outs = λ seven. absurd (omega arith) }
  fault_if (Some a) LogFault ends = record { reads = λ four. absurd (omega arith); writes = λ five. absurd (omega arith); logs = λ six. (ends.0, ends.3); outs = λ seven. absurd (omega arith) }
  fault_if (Some a) OutFault ends = record { reads = λ four. absurd (omega arith); writes = λ five. absurd (omega arith); logs = λ six. absurd (omega arith); outs = λ seven. ends.0 }
  fault_if (Some a) Memory ends = no_fault (Some a) 8 (inr (omega arith))
  fault_if (Some a) (OverLimit limit) ends = no_fault (Some a) 9 (inr (omega arith))
  fault_if (Some a) (BadLog path) ends = no_fault (Some a) 10 (inr (omega arith))

-- A refusal was said with a status: that of the command, or out of memory for its line
pub record Refused (request : Option Asked) (known : Option Paths) (logs : Option Logs) (old new : FaultCounts) (bytes bytes_now : Option (List ℕ)) (faults faults_now status : ℕ) : Type 0 where
  pub error : ToolError
  pub ends : Ends request known logs old new (Err error)
  pub says : SaysAs error bytes bytes_now faults faults_now status

memory_ends : (request : Option Asked) (known : Option Paths) (logs : Option Logs) (old new : FaultCounts) → Ends request known logs old new (Err Memory)
memory_ends None known logs old new = tt
memory_ends (Some a) known logs old new = tt

module _ (request : Option Asked) (known : Option Paths) (logs : Option Logs) (old new : FaultCounts) (bytes bytes_now : Option (List ℕ)) (faults faults_now status : ℕ) where
  pub refused_by : (error : ToolError) → Ends request known logs old new (Err error)
      → SaysAs error bytes bytes_now faults faults_now status ⊎ SaysAs Memory bytes bytes_now faults faults_now status
      → Refused request known logs old new bytes bytes_now faults faults_now status
  refused_by error ends (inl says) = record { error = error; ends = ends; says = says }
  refused_by error ends (inr says) = record { error = Memory; ends = memory_ends request known logs old new; says = says }

  module _ (refused : Refused request known logs old new bytes bytes_now faults faults_now status) where
    pub usage_ends : UsageIf request status
    usage_ends = subst (λ (n : ℕ). UsageIf request n) (sym refused.says.status_is) (usage_if known logs old new request refused.error refused.ends)

    pub fault_ends : FaultIf request old new status
    fault_ends = subst (λ (n : ℕ). FaultIf request old new n) (sym refused.says.status_is) (fault_if known logs old new request refused.error refused.ends)

    crowded_by : (q : Option Asked) → Ends q known logs old new (Err refused.error) → IfSome q (λ a. CrowdedIf (options_of a) (status_of_error refused.error))
    crowded_by None ends = tt
    crowded_by (Some a) ends = crowded_if a known logs old new refused.error ends

    pub crowded_ends : IfSome request (λ a. CrowdedIf (options_of a) status)
    crowded_ends = subst (λ (n : ℕ). IfSome request (λ a. CrowdedIf (options_of a) n)) (sym refused.says.status_is) (crowded_by request refused.ends)

    missing_by : (q : Option Asked) → Ends q known logs old new (Err refused.error) → IfSome q (λ a. MissingIf a known logs old.reads new.reads (status_of_error refused.error))
    missing_by None ends = tt
    missing_by (Some a) ends = missing_if a known logs old new refused.error ends

    pub missing_ends : IfSome request (λ a. MissingIf a known logs old.reads new.reads status)
    missing_ends = subst (λ (n : ℕ). IfSome request (λ a. MissingIf a known logs old.reads new.reads n)) (sym refused.says.status_is) (missing_by request refused.ends)

    bad_log_by : (q : Option Asked) → Ends q known logs old new (Err refused.error) → IfSome q (λ a. BadLogIf a known logs old.reads new.reads (status_of_error refused.error))
    bad_log_by None ends = tt
    bad_log_by (Some a) ends = bad_log_if a known logs old new refused.error ends

    pub bad_log_ends : IfSome request (λ a. BadLogIf a known logs old.reads new.reads status)
    bad_log_ends = subst (λ (n : ℕ). IfSome request (λ a. BadLogIf a known logs old.reads new.reads n)) (sym refused.says.status_is) (bad_log_by request refused.ends)

    limit_by : (q : Option Asked) → Ends q known logs old new (Err refused.error) → IfSome q (λ a. LimitIf a known old.reads new.reads (status_of_error refused.error))
    limit_by None ends = tt
    limit_by (Some a) ends = limit_if a known logs old new refused.error ends

    pub limit_ends : IfSome request (λ a. LimitIf a known old.reads new.reads status)
    limit_ends = subst (λ (n : ℕ). IfSome request (λ a. LimitIf a known old.reads new.reads n)) (sym refused.says.status_is) (limit_by request refused.ends)

    complete_by : (q : Option Asked) → Ends q known logs old new (Err refused.error) → IfSome q (λ a. IsComplete a known logs old new (status_of_error refused.error))
    complete_by None ends = tt
    complete_by (Some a) ends = complete_if a known logs old new refused.error ends

    pub complete_ends : IfSome request (λ a. IsComplete a known logs old new status)
    complete_ends = subst (λ (n : ℕ). IfSome request (λ a. IsComplete a known logs old new n)) (sym refused.says.status_is) (complete_by request refused.ends)

-- what a run that was done tells of these statuses
module _ (known : Option Paths) (logs : Option Logs) (old new : FaultCounts) where
  pub done_missing : (request : Option Asked) → Ends request known logs old new (Ok tt) → IfSome request (λ a. MissingIf a known logs old.reads new.reads 0)
  done_missing None ends = tt
  done_missing (Some a) ends = missing_done a known logs old new ends

  pub done_bad_log : (request : Option Asked) → Ends request known logs old new (Ok tt) → IfSome request (λ a. BadLogIf a known logs old.reads new.reads 0)
  done_bad_log None ends = tt
  done_bad_log (Some a) ends = bad_log_done a known logs old new ends

-- what a refusal leaves of the files is left too if there is no memory for its line
memory_files : (request : Option Asked) (status : ℕ) (old new : HostFiles) → LeavesFiles request status old new → LeavesFiles request 8 old new
memory_files None status old new leaves = leaves
memory_files (Some (listing l)) status old new leaves = leaves
memory_files (Some (sampling s)) status old new leaves = leaves
memory_files (Some (recovering r)) status old new leaves = record {
  any = leaves.any;
  done = λ zero. absurd (omega arith);
  refused = λ least most. absurd (omega arith);
  bad_log = λ ten. absurd (omega arith);
  out_fault = λ seven. absurd (omega arith);
}
memory_files (Some (rewriting r)) status old new leaves = record {
  any = leaves.any;
  done = λ zero. absurd (omega arith);
  refused = λ least most. absurd (omega arith);
  read_fault = λ four. absurd (omega arith);
  write_fault = λ five. absurd (omega arith);
  over_limit = λ nine. absurd (omega arith);
  out_fault = λ seven. absurd (omega arith);
}

pub refused_files : (request : Option Asked) (old new : Option HostFiles) (error : ToolError) (bytes bytes_now : Option (List ℕ)) (faults faults_now status : ℕ)
    → SaysAs error bytes bytes_now faults faults_now status ⊎ SaysAs Memory bytes bytes_now faults faults_now status
    → BecomesOf old new (LeavesFiles request (status_of_error error)) → BecomesOf old new (LeavesFiles request status)
refused_files request old new error bytes bytes_now faults faults_now status (inl says) becomes =
    subst (λ (n : ℕ). BecomesOf old new (LeavesFiles request n)) (sym says.status_is) becomes
refused_files request old new error bytes bytes_now faults faults_now status (inr says) becomes =
    subst (λ (n : ℕ). BecomesOf old new (LeavesFiles request n)) (sym says.status_is)
    (becomes_also old new (LeavesFiles request (status_of_error error)) (LeavesFiles request 8) (λ o n leaves. memory_files request (status_of_error error) o n leaves) becomes)

-- the text of a recovery at the end of a run
wrote_all : (text : List ℕ) (old new : Option (List ℕ)) → Puts {E = ToolError} text old new (Ok tt) → Wrote text old new 0
wrote_all text None new puts = record { all = λ zero. puts.ok; prefix = tt }
wrote_all text (Some bytes) new puts =
    let whole : IsSomeAnd (Some (bytes ++ text)) (GainsPrefix text bytes) = record { prefix = text; rest = []; whole = sym (append-nil text); is = refl } in
    record { all = λ zero. puts.ok; prefix = subst (λ (o : Option (List ℕ)). IsSomeAnd o (GainsPrefix text bytes)) (sym puts.ok) whole }

wrote_part : (text : List ℕ) (old new : Option (List ℕ)) (error : ToolError) (status : ℕ) → (status ≡ 0 → ⊥) → Puts text old new (Err error) → Wrote text old new status
wrote_part text old new error status some puts = record { all = λ zero. absurd (some zero); prefix = puts.failed }

for_log : (r : LoggedAsked) (logs : Logs) (P Q : Log → Type 0) → ((log : Log) → P log → Q log) → ForLogOf r logs P → ForLogOf r logs Q
for_log r logs P Q to is = IfSome_then (logs r.log) is (λ file each log is_log. to log (each log is_log))

module _ (logs : Option Logs) (old new : Option (List ℕ)) (result : Result Unit ToolError) (status : ℕ)
    (to : (text : List ℕ) → Puts text old new result → Wrote text old new status) where
  wrote_log : (a : Asked) → PutsLogOf a logs old new result → WroteLogOf a logs old new status
  wrote_log (listing l) puts = tt
  wrote_log (rewriting r) puts = tt
  wrote_log (recovering r) puts = IfSome_then logs puts
      (λ l is. for_log r l (λ log. Puts (recover_text log) old new result) (λ log. Wrote (recover_text log) old new status) (λ log. to (recover_text log)) is)
  wrote_log (sampling s) puts = tt

  wrote_request : (request : Option Asked) → IfSome request (λ a. PutsLogOf a logs old new result) → IfSome request (λ a. WroteLogOf a logs old new status)
  wrote_request None puts = tt
  wrote_request (Some a) puts = wrote_log a puts

pub wrote_done : (request : Option Asked) (logs : Option Logs) (old new : Option (List ℕ)) → IfSome request (λ a. PutsLogOf {E = ToolError} a logs old new (Ok tt))
    → IfSome request (λ a. WroteLogOf a logs old new 0)
wrote_done request logs old new puts = wrote_request logs old new (Ok tt) 0 (λ text is. wrote_all text old new is) request puts

pub wrote_refused : (request : Option Asked) (logs : Option Logs) (old new : Option (List ℕ)) (error : ToolError) (status : ℕ) → (status ≡ 0 → ⊥)
    → IfSome request (λ a. PutsLogOf a logs old new (Err error)) → IfSome request (λ a. WroteLogOf a logs old new status)
wrote_refused request logs old new error status some puts =
    wrote_request logs old new (Err error) status (λ text is. wrote_part text old new error status some is) request puts

-- the same of the text that is asked for
pub text_refused : (request : Option Asked) (text_of : Asked → Option (List ℕ)) (old new : Option (List ℕ)) (error : ToolError) (status : ℕ) → (status ≡ 0 → ⊥)
    → IfSome request (λ a. IfSome (text_of a) (λ text. Puts text old new (Err error))) → IfSome request (λ a. IfSome (text_of a) (λ text. Wrote text old new status))
text_refused None text_of old new error status some puts = tt
text_refused (Some a) text_of old new error status some puts = IfSome_then (text_of a) puts (λ text is. wrote_part text old new error status some is)

-- and of the text that is asked for with its counts
module _ (counted_of : Asked → Option CountedText) (old new : Option (List ℕ)) (result : Result Unit ToolError) (status : ℕ)
    (to : (text : List ℕ) → Puts text old new result → Wrote text old new status) where
  wrote_counted : (t : CountedText) → PutsCounted t old new result → WroteCounted t old new status
  wrote_counted t p = record { io = p.io; found = p.found; wrote = to (t.text ++ io_line p.io) p.puts }

  counted_request : (request : Option Asked) → IfSome request (λ a. IfSome (counted_of a) (λ t. PutsCounted t old new result))
      → IfSome request (λ a. IfSome (counted_of a) (λ t. WroteCounted t old new status))
  counted_request None puts = tt
  counted_request (Some a) puts = IfSome_then (counted_of a) puts (λ t p. wrote_counted t p)

pub counted_done : (request : Option Asked) (counted_of : Asked → Option CountedText) (old new : Option (List ℕ)) → IfSome request (λ a. IfSome (counted_of a) (λ t. PutsCounted {E = ToolError} t old new (Ok tt)))
    → IfSome request (λ a. IfSome (counted_of a) (λ t. WroteCounted t old new 0))
counted_done request counted_of old new puts = counted_request counted_of old new (Ok tt) 0 (λ text is. wrote_all text old new is) request puts

pub counted_refused : (request : Option Asked) (counted_of : Asked → Option CountedText) (old new : Option (List ℕ)) (error : ToolError) (status : ℕ) → (status ≡ 0 → ⊥)
    → IfSome request (λ a. IfSome (counted_of a) (λ t. PutsCounted t old new (Err error))) → IfSome request (λ a. IfSome (counted_of a) (λ t. WroteCounted t old new status))
counted_refused request counted_of old new error status some puts =
    counted_request counted_of old new (Err error) status (λ text is. wrote_part text old new error status some is) request puts

some_status : (e : ToolError) → status_of_error e ≡ 0 → ⊥
some_status Usage zero = omega arith
some_status (Crowded crowding) zero = omega arith
some_status (Missing path) zero = omega arith
some_status ReadFault zero = omega arith
some_status WriteFault zero = omega arith
some_status LogFault zero = omega arith
some_status OutFault zero = omega arith
some_status Memory zero = omega arith
some_status (OverLimit limit) zero = omega arith
some_status (BadLog path) zero = omega arith

pub said_some : (error : ToolError) (bytes bytes_now : Option (List ℕ)) (faults faults_now status : ℕ)
    → SaysAs error bytes bytes_now faults faults_now status ⊎ SaysAs Memory bytes bytes_now faults faults_now status → status ≡ 0 → ⊥
said_some error bytes bytes_now faults faults_now status (inl says) zero = some_status error (sym says.status_is ∙ zero)
said_some error bytes bytes_now faults faults_now status (inr says) zero = some_status Memory (sym says.status_is ∙ zero)
