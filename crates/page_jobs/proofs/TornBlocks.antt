-- What a worker of a rewrite failed to append.
use Rattle.std.proofs.Common.{◌≡◌, ℕ, zero, suc, List, [], ◌∷◌, ◌++◌, append_assoc, Err, sym, refl, ap, ◌∙◌, subst, ⊎_elim}
use Rattle.std.proofs.lemmas.List.{append-nil}
use mathlib.Core.Option.{some, some-injective, some-ne-none}
use lib.ListN.{get_elem?}
use Rattle.block_tag.specs.declared.tag.Tag.{Tag}
use Rattle.block_tag.specs.Names.{packed_tag}
use Rattle.page_layout.specs.Fields.{with_lsn}
use Rattle.page_layout.specs.Rewritten.{rewritten_page}
use Rattle.pin_core.specs.declared.view.TornRecord.{TornRecord}
use Rattle.pin_core.specs.State.{Page}
use Rattle.wal_flush.specs.declared.inserts.InsertError.{InsertError}
use Rattle.wal_flush.specs.declared.inserts.InsertError.TheVariants.{LogFull, LogDown, LogFault}
use Rattle.wal_flush.specs.Inserts.{AddsTorn}
use Rattle.grid.proofs.Lists.{at_longer}
use Rattle.history_core.proofs.Calls.{at_both}
use Rattle.history_core.proofs.Unentered.{at_right}
use Rattle.page_jobs.specs.Rewrites.{Outcome, Rule, TornBy, TornOf, refused, rule_of}

-- nothing
pub torn_none : (r : Rule) (os : List Outcome) (a b : List TornRecord) → b ≡ a → TornBy r os a b
torn_none r os a b e = record { more = []; added = e ∙ sym (append-nil a); each = λ k x at. absurd (some-ne-none x (sym at)) }

-- what it had failed to append before
pub torn_from : (r : Rule) (os : List Outcome) (a b c : List TornRecord) → b ≡ a → TornBy r os b c → TornBy r os a c
torn_from r os a b c e = subst (λ (l : List TornRecord). TornBy r os l c) e

-- and after
pub torn_until : (r : Rule) (os : List Outcome) (a b c : List TornRecord) → c ≡ b → TornBy r os a b → TornBy r os a c
torn_until r os a b c e = subst (λ (l : List TornRecord). TornBy r os a l) (sym e)

-- records of the first outcomes, and of the others, are of all
pub torn_first : (r : Rule) (os us : List Outcome) (x : TornRecord) → TornOf r os x → TornOf r (os ++ us) x
torn_first r os us x (k, b, i, n, lsn, p, at, low, is) = (k, b, i, n, lsn, p, at_longer os us k (refused b i p n) at, low, is)

pub torn_other : (r : Rule) (os us : List Outcome) (x : TornRecord) → TornOf r us x → TornOf r (os ++ us) x
torn_other r os us x (k, b, i, n, lsn, p, at, low, is) = let y = at_right os us k (refused b i p n) at in (y.0, b, i, n, lsn, p, y.1, low, is)

-- one after the other
pub torn_both : (r : Rule) (os us : List Outcome) (a b c : List TornRecord) → TornBy r os a b → TornBy r us b c → TornBy r (os ++ us) a c
torn_both r os us a b c x y = record {
  more = x.more ++ y.more;
  added = y.added ∙ ap (λ (l : List TornRecord). l ++ y.more) x.added ∙ append_assoc a x.more y.more;
  each = λ k z at. ⊎_elim
      (λ (t : get_elem? x.more k ≡ some z). torn_first r os us z (x.each k z t))
      (λ (t : (j : ℕ) × (get_elem? y.more j ≡ some z)). torn_other r os us z (y.each t.0 z t.1))
      (at_both x.more y.more k z at);
}

-- a put that was refused
pub torn_refused : (tag : Tag) (number place : ℕ) (page after : Page) (why : InsertError) (a b : List TornRecord) → after ≡ rewritten_page page → AddsTorn (packed_tag tag) after (Err why) a b → TornBy (rule_of tag.rel.0 tag.fork) (refused tag.block number page place ∷ []) a b
torn_refused tag number place page after (LogFull end) a b image same = torn_none (rule_of tag.rel.0 tag.fork) (refused tag.block number page place ∷ []) a b same
torn_refused tag number place page after (LogDown at) a b image same = torn_none (rule_of tag.rel.0 tag.fork) (refused tag.block number page place ∷ []) a b same
torn_refused tag number place page after LogFault a b image (lsn, low, is) = record { more = record { tag = packed_tag tag; page = with_lsn lsn after } ∷ []; added = is; each = one }
  where
    one : (k : ℕ) (x : TornRecord) → get_elem? (record { tag = packed_tag tag; page = with_lsn lsn after } ∷ []) k ≡ some x → TornOf (rule_of tag.rel.0 tag.fork) (refused tag.block number page place ∷ []) x
    one zero x at = (0, tag.block, number, place, lsn, page, refl, low, sym (some-injective _ x at) ∙ ap (λ (p : Page). record { tag = packed_tag tag; page = with_lsn lsn p }) image)
    one (suc k) x at = absurd (some-ne-none x (sym at))
