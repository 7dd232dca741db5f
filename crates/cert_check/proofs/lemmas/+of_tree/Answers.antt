use Rattle.std.proofs.Common.{◌≡◌, ◌∷◌, true, false, sym, ◌∙◌, ap, refl}
use Rattle.farkas_cert.specs.Trees.{tree_of, split}
use Rattle.clause_form.specs.Derivations.{rows_of}
use Rattle.cert_check.specs.Known.{known_with}
use Rattle.cert_check.specs.Tables.{Assumed}
use Rattle.cert_check.proofs.LemmaLaws.{side, reaches_split, reaches_yes, reaches_no, turned_path}
use Rattle.cert_check.proofs.TreeLaws.{tree_sides}
use Rattle.cert_check.proofs.lemmas.+of_tree.Goals as goal

pub returns-in_default : goal.returns-in_default
returns-in_default t c =
    let tree : tree_of c.args.proof.now ≡ split c.in-Split.atom (tree_of c.in-Split.yes.value) (tree_of c.in-Split.no.value) = tree_sides c.args.proof.now c.in-Split.atom c.in-Split.yes c.in-Split.no c.in-Split.yes.value c.in-Split.no.value c.in-Split.is refl refl in
    let r = reaches_split (rows_of c.args.clauses.now) (known_with c.args.clauses.now.clauses c.args.earlier.now) c.args.desk.now.path.lits (tree_of c.args.proof.now) c.in-Split.atom (tree_of c.in-Split.yes.value) (tree_of c.in-Split.no.value) c.split.result c.args.node.now c.counted.new.node tree c.split.ensures (λ e. c.in_default.not-Sound (c.counted.ensures.found ∙ e)) c.counted.ensures.node in
    record { found = c.counted.ensures.found ∙ r.0; node = r.1; ready = λ e. absurd (c.in_default.not-Sound e) }

pub returns-in_default-2 : goal.returns-in_default-2
returns-in_default-2 t c =
    let tree : tree_of c.args.proof.now ≡ split c.in-Split.atom (tree_of c.deref.result.now) (tree_of c.in-Split.no.value) = tree_sides c.args.proof.now c.in-Split.atom c.in-Split.yes c.in-Split.no c.deref.result.now c.in-Split.no.value c.in-Split.is (cc) refl in
    let r = reaches_yes (rows_of c.args.clauses.now) (known_with c.args.clauses.now.clauses c.args.earlier.now) c.args.desk.now.path.lits c.assume.new.self.lits (tree_of c.args.proof.now) c.in-Split.atom (tree_of c.deref.result.now) (tree_of c.in-Split.no.value) c.split.result c.in_ok-fault-in-Split.fault c.args.node.now c.counted.new.node c.of_tree.new.node tree c.split.ensures (sym c.counted.ensures.found ∙ c.in-Sound.is) c.counted.ensures.node (ap (λ (p : Assumed). p.lits) c.in_ok-assume-in-Split.ensures) c.in_ok-fault-in-Split.ensures.found c.in_ok-fault-in-Split.ensures.node c.in_default-2.not-Sound in
    record { found = r.0; node = r.1; ready = λ e. absurd (c.in_default-2.not-Sound e) }

pub returns-in_default-3 : goal.returns-in_default-3
returns-in_default-3 t c =
    let tree : tree_of c.args.proof.now ≡ split c.in-Split.atom (tree_of c.deref.result.now) (tree_of c.deref-in-Split.result.now) = tree_sides c.args.proof.now c.in-Split.atom c.in-Split.yes c.in-Split.no c.deref.result.now c.deref-in-Split.result.now c.in-Split.is (cc) (cc) in
    let first = ap (λ (p : Assumed). p.lits) c.in_ok-assume-in-Split.ensures in
    let second = turned_path c.in-Split.atom c.args.desk.now.path.lits c.assume.new.self c.of_tree.new.desk.path c.retract.new.self c.assume-in-Split.new.self first (c.in_ok-fault-in-Split.ensures.ready c.in-Sound-2.is).1 (ap (λ (p : Assumed). p.lits) c.retract.ensures) (ap (λ (p : Assumed). p.lits) c.in_ok-assume-in-Split-2.ensures) in
    let r = reaches_no (rows_of c.args.clauses.now) (known_with c.args.clauses.now.clauses c.args.earlier.now) c.args.desk.now.path.lits c.assume.new.self.lits c.assume-in-Split.new.self.lits (tree_of c.args.proof.now) c.in-Split.atom (tree_of c.deref.result.now) (tree_of c.deref-in-Split.result.now) c.split.result c.in_ok-fault-in-Split.fault c.in_ok-fault-in-Split-2.fault c.args.node.now c.counted.new.node c.of_tree.new.node c.of_tree-in-Split.new.node tree c.split.ensures (sym c.counted.ensures.found ∙ c.in-Sound.is) c.counted.ensures.node first c.in_ok-fault-in-Split.ensures.found c.in-Sound-2.is c.in_ok-fault-in-Split.ensures.node second c.in_ok-fault-in-Split-2.ensures.found c.in_ok-fault-in-Split-2.ensures.node in
    record { found = r.0; node = r.1; ready = λ e. absurd (c.in_default-3.not-Sound e) }

pub returns-in-Sound-3-clause-found : goal.returns-in-Sound-3-clause-found
returns-in-Sound-3-clause-found t c =
    let tree : tree_of c.args.proof.now ≡ split c.in-Split.atom (tree_of c.deref.result.now) (tree_of c.deref-in-Split.result.now) = tree_sides c.args.proof.now c.in-Split.atom c.in-Split.yes c.in-Split.no c.deref.result.now c.deref-in-Split.result.now c.in-Split.is (cc) (cc) in
    let first = ap (λ (p : Assumed). p.lits) c.in_ok-assume-in-Split.ensures in
    let second = turned_path c.in-Split.atom c.args.desk.now.path.lits c.assume.new.self c.of_tree.new.desk.path c.retract.new.self c.assume-in-Split.new.self first (c.in_ok-fault-in-Split.ensures.ready c.in-Sound-2.is).1 (ap (λ (p : Assumed). p.lits) c.retract.ensures) (ap (λ (p : Assumed). p.lits) c.in_ok-assume-in-Split-2.ensures) in
    let r = reaches_no (rows_of c.args.clauses.now) (known_with c.args.clauses.now.clauses c.args.earlier.now) c.args.desk.now.path.lits c.assume.new.self.lits c.assume-in-Split.new.self.lits (tree_of c.args.proof.now) c.in-Split.atom (tree_of c.deref.result.now) (tree_of c.deref-in-Split.result.now) c.split.result c.in_ok-fault-in-Split.fault c.in_ok-fault-in-Split-2.fault c.args.node.now c.counted.new.node c.of_tree.new.node c.of_tree-in-Split.new.node tree c.split.ensures (sym c.counted.ensures.found ∙ c.in-Sound.is) c.counted.ensures.node first c.in_ok-fault-in-Split.ensures.found c.in-Sound-2.is c.in_ok-fault-in-Split.ensures.node second c.in_ok-fault-in-Split-2.ensures.found c.in_ok-fault-in-Split-2.ensures.node in
    sym c.in-Sound-3.is ∙ r.0

pub returns-in-Sound-3-clause-node : goal.returns-in-Sound-3-clause-node
returns-in-Sound-3-clause-node t c =
    let tree : tree_of c.args.proof.now ≡ split c.in-Split.atom (tree_of c.deref.result.now) (tree_of c.deref-in-Split.result.now) = tree_sides c.args.proof.now c.in-Split.atom c.in-Split.yes c.in-Split.no c.deref.result.now c.deref-in-Split.result.now c.in-Split.is (cc) (cc) in
    let first = ap (λ (p : Assumed). p.lits) c.in_ok-assume-in-Split.ensures in
    let second = turned_path c.in-Split.atom c.args.desk.now.path.lits c.assume.new.self c.of_tree.new.desk.path c.retract.new.self c.assume-in-Split.new.self first (c.in_ok-fault-in-Split.ensures.ready c.in-Sound-2.is).1 (ap (λ (p : Assumed). p.lits) c.retract.ensures) (ap (λ (p : Assumed). p.lits) c.in_ok-assume-in-Split-2.ensures) in
    let r = reaches_no (rows_of c.args.clauses.now) (known_with c.args.clauses.now.clauses c.args.earlier.now) c.args.desk.now.path.lits c.assume.new.self.lits c.assume-in-Split.new.self.lits (tree_of c.args.proof.now) c.in-Split.atom (tree_of c.deref.result.now) (tree_of c.deref-in-Split.result.now) c.split.result c.in_ok-fault-in-Split.fault c.in_ok-fault-in-Split-2.fault c.args.node.now c.counted.new.node c.of_tree.new.node c.of_tree-in-Split.new.node tree c.split.ensures (sym c.counted.ensures.found ∙ c.in-Sound.is) c.counted.ensures.node first c.in_ok-fault-in-Split.ensures.found c.in-Sound-2.is c.in_ok-fault-in-Split.ensures.node second c.in_ok-fault-in-Split-2.ensures.found c.in_ok-fault-in-Split-2.ensures.node in
    r.1
