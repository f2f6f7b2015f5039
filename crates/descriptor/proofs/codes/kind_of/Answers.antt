-- `kind_of` names the code's kind: each branch by the range of codes that leads to it. Assumes nothing.
use mathlib.Core.Path.{refl, sym, ap}
use native.Mathlib.Omega.{arith}
use Rattle.descriptor.specs.Codes.{kind_of, plain, enumeration, quantity, string, array, cluster, stamp, unknown}
use Rattle.descriptor.specs.inner.Steps.{kind_is}
use Rattle.descriptor.proofs.CodeKinds.{kind_number, all_are, in-range, past-ranges}
use Rattle.descriptor.proofs.codes.kind_of.Goals as goal

pub returns-then-code-lt1 : goal.returns-then-code-lt1
unfolding all_are kind_of kind_number kind_is
returns-then-code-lt1 c = in-range unknown 1 0x00 refl c.args.code (omega arith) (omega arith)

pub returns-then-code-le-LAST_NUMBER : goal.returns-then-code-le-LAST_NUMBER
unfolding all_are kind_of kind_number kind_is
returns-then-code-le-LAST_NUMBER c = in-range plain 14 0x01 refl c.args.code (omega arith) (omega arith)

pub returns-then-code-lt-FIRST_ENUMERATION : goal.returns-then-code-lt-FIRST_ENUMERATION
unfolding all_are kind_of kind_number kind_is
returns-then-code-lt-FIRST_ENUMERATION c = in-range unknown 6 0x0F refl c.args.code (omega arith) (omega arith)

pub returns-then-code-le-LAST_ENUMERATION : goal.returns-then-code-le-LAST_ENUMERATION
unfolding all_are kind_of kind_number kind_is
returns-then-code-le-LAST_ENUMERATION c = in-range enumeration 3 0x15 refl c.args.code (omega arith) (omega arith)

pub returns-then-code-lt-FIRST_QUANTITY : goal.returns-then-code-lt-FIRST_QUANTITY
unfolding all_are kind_of kind_number kind_is
returns-then-code-lt-FIRST_QUANTITY c = in-range unknown 1 0x18 refl c.args.code (omega arith) (omega arith)

pub returns-then-code-le-LAST_QUANTITY : goal.returns-then-code-le-LAST_QUANTITY
unfolding all_are kind_of kind_number kind_is
returns-then-code-le-LAST_QUANTITY c = in-range quantity 6 0x19 refl c.args.code (omega arith) (omega arith)

pub returns-then-code-eq-BOOLEAN : goal.returns-then-code-eq-BOOLEAN
unfolding all_are kind_of kind_number kind_is
returns-then-code-eq-BOOLEAN c = in-range plain 1 0x21 refl c.args.code (omega arith) (omega arith)

pub returns-then-code-eq-STRING : goal.returns-then-code-eq-STRING
unfolding all_are kind_of kind_number kind_is
returns-then-code-eq-STRING c = in-range string 1 0x30 refl c.args.code (omega arith) (omega arith)

pub returns-then-code-eq-ARRAY : goal.returns-then-code-eq-ARRAY
unfolding all_are kind_of kind_number kind_is
returns-then-code-eq-ARRAY c = in-range array 1 0x40 refl c.args.code (omega arith) (omega arith)

pub returns-then-code-eq-CLUSTER : goal.returns-then-code-eq-CLUSTER
unfolding all_are kind_of kind_number kind_is
returns-then-code-eq-CLUSTER c = in-range cluster 1 0x50 refl c.args.code (omega arith) (omega arith)

pub returns-then-code-eq-STAMP : goal.returns-then-code-eq-STAMP
unfolding all_are kind_of kind_number kind_is
returns-then-code-eq-STAMP c = in-range stamp 1 0x54 refl c.args.code (omega arith) (omega arith)

pub returns : goal.returns
unfolding kind_is
returns c = ap kind_is (sym (past-ranges c.args.code (omega arith) (λ e. omega arith) (λ e. omega arith) (λ e. omega arith) (λ e. omega arith) (λ e. omega arith)))
