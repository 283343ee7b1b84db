-- An operation tells besides what every table with the rule has.
use Rattle.std.proofs.Common.{◌≡◌, ℕ, get_or}
use mathlib.Core.Option.{some}
use lib.ListN.{get_elem?}
use Rattle.atomic_table.specs.Table.{Me, Allows}
use Rattle.atomic_table.specs.Table as table

pub allows_with : {S V : Type 0} (holds : table.State S V → Type 0) (slots id : ℕ) (me : Me S V) (i : ℕ) (g : ℕ → ℕ) (then : ℕ → Me S V → Type 0) (besides : ℕ → Type 0)
    → Allows holds slots id me i g then → ((t : table.State S V) → holds t → get_elem? t.views id ≡ some me.0 → besides (get_or t.words i 0)) → Allows holds slots id me i g (λ found m'. then found m' × besides found)
allows_with holds slots id me i g then besides allows has t h deep there small = let r = allows t h deep there small in (r.0, r.1, r.2, r.3, (r.4, has t h there))
