-- What the proofs use of a table: the equations of its needs, and that each row stands on rows of the right sorts.
use Rattle.std.proofs.Common.{◌≡◌, ℕ, zero, suc, ◌<◌, Bool, List, ℤ, Some, Option, ap, subst, arith as linear}
use Rattle.rows.specs.declared.row.Operator.{Operator}
use Rattle.rows.specs.declared.row.Relation.{Relation}
use Rattle.rows.specs.declared.row.Sort.{Sort}
use Rattle.rows.specs.declared.row.Sort.TheVariants.{Integer, Boolean, Command}
use Rattle.rows.specs.declared.row.Row.{Row}
use Rattle.rows.specs.declared.row.Row.TheVariants as row
use Rattle.rows.specs.Rows.{row_at, sort_of}
use Rattle.rows.specs.Parts.{SoundParts}
use Rattle.loading.specs.Questions.{Loaded}
use Rattle.loading.specs.Stacks.{control_need, results_need, needs_at}
use Rattle.loading.proofs.Laws.{well_formed}

-- K and R meet the equations of the needs
pub record Meets (rows : ℕ → Option Row) (K R : ℕ → ℕ) : Type 0 where
  pub controls : {p : ℕ} {w : Row} → rows p ≡ Some w → K p ≡ control_need K w
  pub results : {p : ℕ} {w : Row} → rows p ≡ Some w → R p ≡ results_need R w

-- the row p stands, with all its parts, and is of that sort
pub data Stands (rows : ℕ → Option Row) : ℕ → Sort → Type 0 where
  a_number : {p : ℕ} {a : ℤ} → rows p ≡ Some (row.Number a) → Stands rows p Integer
  a_contents : {p l : ℕ} → rows p ≡ Some (row.Contents l) → Stands rows p Integer
  an_arithmetic : {p x y : ℕ} {o : Operator} → rows p ≡ Some (row.Arithmetic o x y) → Stands rows x Integer → Stands rows y Integer → Stands rows p Integer
  a_truth : {p : ℕ} {t : Bool} → rows p ≡ Some (row.Truth t) → Stands rows p Boolean
  a_comparison : {p x y : ℕ} {o : Relation} → rows p ≡ Some (row.Comparison o x y) → Stands rows x Integer → Stands rows y Integer → Stands rows p Boolean
  a_not : {p x : ℕ} → rows p ≡ Some (row.Not x) → Stands rows x Boolean → Stands rows p Boolean
  an_and : {p x y : ℕ} → rows p ≡ Some (row.And x y) → Stands rows x Boolean → Stands rows y Boolean → Stands rows p Boolean
  a_skip : {p : ℕ} → rows p ≡ Some row.Skip → Stands rows p Command
  an_assignment : {p l x : ℕ} → rows p ≡ Some (row.Assignment l x) → Stands rows x Integer → Stands rows p Command
  a_sequence : {p x y : ℕ} → rows p ≡ Some (row.Sequence x y) → Stands rows x Command → Stands rows y Command → Stands rows p Command
  a_choice : {p b x y : ℕ} → rows p ≡ Some (row.Choice b x y) → Stands rows b Boolean → Stands rows x Command → Stands rows y Command → Stands rows p Command
  a_loop : {p b x : ℕ} → rows p ≡ Some (row.Loop b x) → Stands rows b Boolean → Stands rows x Command → Stands rows p Command

pub strong : (P : ℕ → Type 0) → ((n : ℕ) → ((n' : ℕ) → n' < n → P n') → P n) → (n : ℕ) → P n
strong P f n = below (suc n) n (omega linear)
  where
    below : (b n : ℕ) → n < b → P n
    below zero n lt = absurd (omega linear)
    below (suc b) n lt = f n (λ n' lt'. below b n' (omega linear))

module _ (table : List ℕ) (loaded : Loaded table) where
  abbrev Below : ℕ → Type 0
  Below p = (w : Row) → row_at table p ≡ Some w → Stands (row_at table) p (sort_of w)

  part : (p x : ℕ) (s : Sort) → ((x : ℕ) → x < p → Below x) → (x < p) × ((w : Row) × (row_at table x ≡ Some w) × (sort_of w ≡ s)) → Stands (row_at table) x s
  part p x s ih h = subst (Stands (row_at table) x) h.1.2 (ih x h.0 h.1.0 h.1.1)

  row_stands : (p : ℕ) → ((x : ℕ) → x < p → Below x) → (w : Row) → row_at table p ≡ Some w → SoundParts table p w → Stands (row_at table) p (sort_of w)
  row_stands p ih (row.Number a) e u = a_number e
  row_stands p ih (row.Contents l) e u = a_contents e
  row_stands p ih (row.Arithmetic o x y) e u = an_arithmetic e (part p x Integer ih u.0) (part p y Integer ih u.1)
  row_stands p ih (row.Truth t) e u = a_truth e
  row_stands p ih (row.Comparison o x y) e u = a_comparison e (part p x Integer ih u.0) (part p y Integer ih u.1)
  row_stands p ih (row.Not x) e u = a_not e (part p x Boolean ih u)
  row_stands p ih (row.And x y) e u = an_and e (part p x Boolean ih u.0) (part p y Boolean ih u.1)
  row_stands p ih row.Skip e u = a_skip e
  row_stands p ih (row.Assignment l x) e u = an_assignment e (part p x Integer ih u)
  row_stands p ih (row.Sequence x y) e u = a_sequence e (part p x Command ih u.0) (part p y Command ih u.1)
  row_stands p ih (row.Choice b x y) e u = a_choice e (part p b Boolean ih u.0) (part p x Command ih u.1) (part p y Command ih u.2)
  row_stands p ih (row.Loop b x) e u = a_loop e (part p b Boolean ih u.0) (part p x Command ih u.1)

  -- every row of a loaded table stands
  pub stands : (p : ℕ) (w : Row) → row_at table p ≡ Some w → Stands (row_at table) p (sort_of w)
  stands = strong Below (λ p ih w e. row_stands p ih w e ((well_formed table loaded).parts p w e))

  -- and its needs meet their equations
  pub meets : Meets (row_at table) (λ p. (needs_at table p).control) (λ p. (needs_at table p).results)
  meets = record {
    controls = λ {p} {w} e. ap (λ n. n.control) ((well_formed table loaded).settled.meets p w e);
    results = λ {p} {w} e. ap (λ n. n.results) ((well_formed table loaded).settled.meets p w e);
  }
