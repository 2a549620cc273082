-- The values that a script can write.
use Rattle.std.proofs.Common.{◌≡◌, ℕ, ℤ, Bool, true, List, refl}
use Rattle.seq_values.specs.declared.value.Value as value
use Rattle.seq_values.specs.declared.value.Node as node_value
use Rattle.seq_values.specs.declared.value.Node.TheViews as views
use Rattle.clj_script.specs.Literals.{literal_of, is_written}
use Rattle.clj_script.specs.Trees as tree

pub nil_is : (literal_of value.Nil ≡ tree.nil_literal) × (is_written value.Nil ≡ true)
unfolding views.out-Value denote.Hole.Carrier.out
nil_is = (refl, refl)

pub bool_is : (b : Bool) → (literal_of (value.Bool b) ≡ tree.bool_literal b) × (is_written (value.Bool b) ≡ true)
unfolding views.out-Value denote.Hole.Carrier.out
bool_is b = (refl, refl)

pub int_is : (z : ℤ) → (literal_of (value.Int z) ≡ tree.int_literal z) × (is_written (value.Int z) ≡ true)
unfolding views.out-Value denote.Hole.Carrier.out
int_is z = (refl, refl)

pub keyword_is : (name : List ℕ) → (literal_of (value.Keyword name) ≡ tree.keyword_literal name) × (is_written (value.Keyword name) ≡ true)
unfolding views.out-Value denote.Hole.Carrier.out
keyword_is name = (refl, refl)

pub text_is : (text : List ℕ) → (literal_of (value.Text text) ≡ tree.text_literal text) × (is_written (value.Text text) ≡ true)
unfolding views.out-Value denote.Hole.Carrier.out
text_is text = (refl, refl)

pub empty_is : (literal_of (value.Node node_value.Empty) ≡ tree.empty_literal) × (is_written (value.Node node_value.Empty) ≡ true)
unfolding views.out-Value denote.Hole.Carrier.out node_value.out-Node
empty_is = (refl, refl)

pub nil_written : is_written value.Nil ≡ true
nil_written = nil_is.1

pub empty_written : is_written (value.Node node_value.Empty) ≡ true
empty_written = empty_is.1
