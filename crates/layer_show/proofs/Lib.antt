mod Vain
