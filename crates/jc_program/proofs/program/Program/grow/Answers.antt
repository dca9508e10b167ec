use Rattle.std.proofs.Common.{length, sym, arith, ap, subst, ◌∙◌}
use Rattle.jc_program.specs.Called.{AreCalled, AreVisible}
use Rattle.jc_program.specs.ClassRows.{AreClassRows}
use Rattle.jc_program.specs.Entries.{AreEntries}
use Rattle.jc_program.specs.InterfaceRows.{AreInterfaceRows}
use Rattle.jc_program.specs.Supertypes.{AreSupertypes}
use Rattle.jc_program.proofs.Composing.{body_known, composed}
use Rattle.jc_program.proofs.Enlarging.{rows_before}
use Rattle.jc_program.proofs.Interfacing.{are_interface_calls}
use Rattle.jc_program.proofs.program.Program.grow.Goals as goal

pub put_package-requires-clause-known : goal.put_package-requires-clause-known
put_package-requires-clause-known c = search (arith, body_known)

pub grow-requires-3-clause-first : goal.grow-requires-3-clause-first
grow-requires-3-clause-first c =
    (composed c.growing_keeps_lookups.ensures.kept c.growing_keeps_linking.ensures.kept
    c.growing_keeps_lookups.ensures.there c.growing_keeps_lookups.ensures.small c.growing_keeps_linking.ensures.first
    c.built_worlds_are_sound.ensures c.args.self.now c.args.world.now c.requires.grown c.bodies-bodies.ensures.world
    c.table-table.result.now c.table-table.ensures.table c.len-count.ensures.small c.index-bodies-bodies.result
    c.bodies-bodies.result.now c.bodies-bodies.ensures.bodies c.index-bodies-bodies.is c.put_package.new.loaded
    c.in_ok-put_package.ensures.done c.in_ok-put_package.ensures.begins
    c.grow-2.new.self c.in_ok-grow-2.ensures.names).virtual

pub grow-requires-4-clause-first : goal.grow-requires-4-clause-first
grow-requires-4-clause-first c =
    (composed c.growing_keeps_lookups.ensures.kept c.growing_keeps_linking.ensures.kept
    c.growing_keeps_lookups.ensures.there c.growing_keeps_lookups.ensures.small c.growing_keeps_linking.ensures.first
    c.built_worlds_are_sound.ensures c.args.self.now c.args.world.now c.requires.grown c.bodies-bodies.ensures.world
    c.table-table.result.now c.table-table.ensures.table c.len-count.ensures.small c.index-bodies-bodies.result
    c.bodies-bodies.result.now c.bodies-bodies.ensures.bodies c.index-bodies-bodies.is c.put_package.new.loaded
    c.in_ok-put_package.ensures.done c.in_ok-put_package.ensures.begins
    c.grow-2.new.self c.in_ok-grow-2.ensures.names).visible

pub grow-requires-5-clause-first : goal.grow-requires-5-clause-first
grow-requires-5-clause-first c =
    (composed c.growing_keeps_lookups.ensures.kept c.growing_keeps_linking.ensures.kept
    c.growing_keeps_lookups.ensures.there c.growing_keeps_lookups.ensures.small c.growing_keeps_linking.ensures.first
    c.built_worlds_are_sound.ensures c.args.self.now c.args.world.now c.requires.grown c.bodies-bodies.ensures.world
    c.table-table.result.now c.table-table.ensures.table c.len-count.ensures.small c.index-bodies-bodies.result
    c.bodies-bodies.result.now c.bodies-bodies.ensures.bodies c.index-bodies-bodies.is c.put_package.new.loaded
    c.in_ok-put_package.ensures.done c.in_ok-put_package.ensures.begins
    c.grow-2.new.self c.in_ok-grow-2.ensures.names).interfaces

pub grow-requires-7-clause-first : goal.grow-requires-7-clause-first
grow-requires-7-clause-first c =
    (composed c.growing_keeps_lookups.ensures.kept c.growing_keeps_linking.ensures.kept
    c.growing_keeps_lookups.ensures.there c.growing_keeps_lookups.ensures.small c.growing_keeps_linking.ensures.first
    c.built_worlds_are_sound.ensures c.args.self.now c.args.world.now c.requires.grown c.bodies-bodies.ensures.world
    c.table-table.result.now c.table-table.ensures.table c.len-count.ensures.small c.index-bodies-bodies.result
    c.bodies-bodies.result.now c.bodies-bodies.ensures.bodies c.index-bodies-bodies.is c.put_package.new.loaded
    c.in_ok-put_package.ensures.done c.in_ok-put_package.ensures.begins
    c.grow-2.new.self c.in_ok-grow-2.ensures.names).rows

pub grow-requires-6 : goal.grow-requires-6
grow-requires-6 c = grind (arith, rows_before)

pub returns-clause-done : goal.returns-clause-done
returns-clause-done c =
    let all = composed c.growing_keeps_lookups.ensures.kept c.growing_keeps_linking.ensures.kept
    c.growing_keeps_lookups.ensures.there c.growing_keeps_lookups.ensures.small c.growing_keeps_linking.ensures.first
    c.built_worlds_are_sound.ensures c.args.self.now c.args.world.now c.requires.grown c.bodies-bodies.ensures.world
    c.table-table.result.now c.table-table.ensures.table c.len-count.ensures.small c.index-bodies-bodies.result
    c.bodies-bodies.result.now c.bodies-bodies.ensures.bodies c.index-bodies-bodies.is c.put_package.new.loaded
    c.in_ok-put_package.ensures.done c.in_ok-put_package.ensures.begins
    c.grow-2.new.self c.in_ok-grow-2.ensures.names in
    let same = c.table-table.ensures.table in
    let names = c.grow-2.new.self in
    let methods = c.put_package.new.loaded in
    let words = all.words c.in_ok-grow-2.ensures.offsets in
    let virtual_methods = subst (λ s. AreCalled s methods names c.grow-3.new.self) same c.in_ok-grow-3.ensures.called in
    let interfaces = subst (λ s. AreInterfaceRows s names c.grow-5.new.self) same c.in_ok-grow-5.ensures.rows in
    record {
      methods = all.loaded;
      entries = subst (AreEntries c.args.world.now methods) (sym c.in_ok-grow.ensures.done) all.entries;
      pools = ap length c.in_ok-grow.ensures.done ∙ all.pools;
      classes = all.names_now;
      offsets = words;
      virtual_methods = virtual_methods;
      visible_methods = subst (λ s. AreVisible s methods names c.grow-4.new.self) same c.in_ok-grow-4.ensures.visible;
      interfaces = interfaces;
      interface_methods = are_interface_calls c.args.world.now.shapes methods names c.grow-5.new.self c.grow-3.new.self
          all.names_now words interfaces virtual_methods;
      supertypes = subst (λ s. AreSupertypes s names c.grow-6.new.self) same c.in_ok-grow-6.ensures.above;
      rows = subst (λ s. AreClassRows s names c.grow-7.new.self) same c.in_ok-grow-7.ensures.rows;
      member_tokens = all.tokens;
      counts = record {
        virtual_methods = c.in_ok-grow-3.ensures.count;
        visible_methods = c.in_ok-grow-4.ensures.count;
        interface_methods = c.in_ok-grow-5.ensures.count;
        supertypes = c.in_ok-grow-6.ensures.count;
        rows = c.in_ok-grow-7.ensures.count;
      };
      known = record { supertypes = c.in_ok-grow-6.ensures.known };
    }
